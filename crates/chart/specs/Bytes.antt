-- The bytes of a chart: what they say of the defects, and how they follow from a word's answers.
use Rattle.std.specs.Prelude.{ℕ, ◌+◌, Bool, true, false, cond, not, ◌&&◌}
use Rattle.cam.specs.Model.{Build, bit}
use Rattle.cam.specs.declared.defect.Storage.{Storage}
use Rattle.cam.specs.declared.defect.Storage.TheVariants.{Good, Sa0, Sa1, NoRise, NoFall}
use Rattle.chart.specs.declared.answers.Answers.{Answers}

-- storage that cannot come to 1
abbrev pub low : Storage → Bool
low Good = false
low Sa0 = true
low Sa1 = false
low NoRise = true
low NoFall = false

-- storage that cannot come to 0
abbrev pub high : Storage → Bool
high Good = false
high Sa0 = false
high Sa1 = true
high NoRise = false
high NoFall = true

-- a byte from its parts
abbrev pub byte_from : Bool → Bool → Bool → Bool → Bool → Bool → Bool → ℕ
byte_from a b c d e f g =
    cond a 1 0 + cond b 2 0 + cond c 4 0 + cond d 8 0 + cond e 16 0 + cond f 32 0 + cond g 64 0

-- The byte of cell (a, j): 16 for low storage, 32 for high, 64 for a stuck mark; 1, 2, 4 and 8 for the pairs 00, 01, 11
-- and 10 in the wrong set, where the mark is not stuck and the storage can come to the held bit of the pair.
abbrev pub chart_byte : Build → ℕ → ℕ → ℕ
chart_byte B a j =
    let s : Storage = B.storage a j in
    let free : Bool = not (B.stuck a) in
    byte_from
    (free && (not (high s) && B.wrong a j false false))
    (free && (not (high s) && B.wrong a j false true))
    (free && (not (low s) && B.wrong a j true true))
    (free && (not (low s) && B.wrong a j true false))
    (low s) (high s) (B.stuck a)

-- the byte of column j, from the answers alone
abbrev pub byte_of : Answers → ℕ → ℕ
byte_of r j =
    byte_from
    (r.seen && (not (bit r.zeros j) && not (bit r.zero0 j)))
    (not (bit r.zeros j) && bit r.zero1 j)
    (r.seen && (bit r.ones j && not (bit r.one1 j)))
    (bit r.ones j && bit r.one0 j)
    (not (bit r.ones j)) (not (not (bit r.zeros j))) (not r.seen)
