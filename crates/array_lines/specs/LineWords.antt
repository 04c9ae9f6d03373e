-- The words that lines begin with.
use Rattle.std.specs.Prelude.{◌≡◌, ℕ, cond, List, codes, refl, slice_index_or, ◌==◌}
use Rattle.words.specs.Choosing.{told_apart}
use Rattle.array_lines.specs.declared.line.LineWord.{LineWord}
use Rattle.array_lines.specs.declared.line.LineWord.TheVariants.{Note, Cell, Mark}

abbrev pub line_spelling : LineWord → List ℕ
line_spelling Note = codes "note"
line_spelling Cell = codes "cell"
line_spelling Mark = codes "mark"

-- the first letter tells the word
abbrev line_word : List ℕ → LineWord
line_word w = cond (slice_index_or w 0 0 == 110) Note (cond (slice_index_or w 0 0 == 99) Cell Mark)

line_back : (w : LineWord) → line_word (line_spelling w) ≡ w
line_back Note = refl
line_back Cell = refl
line_back Mark = refl

pub line_words_differ : (v w : LineWord) → line_spelling v ≡ line_spelling w → v ≡ w
line_words_differ = told_apart line_spelling line_word line_back
