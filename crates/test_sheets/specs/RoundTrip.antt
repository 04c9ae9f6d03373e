-- What is written reads back.
use Rattle.std.specs.Prelude.{◌≡◌, ℕ, true, List, Ok}
use Rattle.march.specs.Letters.{is_name}
use Rattle.march.specs.Tests.{Element}
use Rattle.march.specs.Building.{is_whole}
use Rattle.words.specs.Readings.{Reading}
use Rattle.sheets.specs.Sheets.{SheetText}
use Rattle.sheet_writer.specs.Sheets.{sheet}

-- the text is a sheet that says this name and these elements, and it has no other reading
abbrev pub Says : List ℕ → List ℕ → List Element → Type 0
Says text name es = Reading (SheetText text) (Ok (record { name = name; elements = es }))

-- The sheet of every whole test reads as that test.
abbrev pub ReadsBack : Type 0
ReadsBack = (name : List ℕ) (es : List Element) → is_name name ≡ true → is_whole es ≡ true → Says (sheet name es) name es
