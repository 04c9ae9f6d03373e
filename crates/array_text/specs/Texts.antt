-- What an array that was read is.
use Rattle.std.specs.Prelude.{◌≡◌, ℕ, List, Ok, Err}
use Rattle.cam.specs.declared.fault.Fault.{Fault}
use Rattle.cam.specs.declared.size.Size.{Size}
use Rattle.words.specs.Readings.{Reading, Gathered}
use Rattle.planes.specs.declared.array.PlaneArray.{PlaneArray}
use Rattle.planes.specs.declared.word.WordRecord.{WordRecord}
use Rattle.planes.specs.Planes.{build_of, state_of, blanked}
use Rattle.array_text.specs.Meaning.{build_with, new_state, AllInside, Exactly}
use Rattle.array_text.specs.Grammar.{Description, FirstLine, ArrayCall}

-- The array is the one that the text means: the text has one reading, the array is of that size and has exactly the
-- defects of the lines, each inside it, and it is new.
pub record Means (records : ℕ) (text : List ℕ) (p : PlaneArray) : Type 0 where
  pub description : Description
  pub reading : Reading (ArrayCall records text) (Ok description)
  pub build : build_of p ≡ build_with description.words description.width description.defects
  pub state : state_of p ≡ new_state (build_of p)
  pub each_defect_and_no_other : Exactly description.defects (build_of p)
  pub inside : AllInside description.words description.width description.defects

-- What becomes of the caller's records where a text is refused: a fault of the first line leaves them as they are; after it
-- those of the words that it asks for are blank, and the others as they were.
pub record HandedBack (text : List ℕ) (old new : List WordRecord) : Type 0 where
  pub first_line_refused : (f : Fault) → FirstLine text (Err f) → new ≡ old
  pub first_line_read : (s : Gathered Size) → FirstLine text (Ok s) → new ≡ blanked s.value.words old
