-- What each granted call makes of the books of a bench.
use Rattle.std.specs.Prelude.{ℕ, ◌+◌, ◌-◌, ◌^◌, min, cond, Some, None, ◌==◌}
use Rattle.std.specs.Option.{unwrap_or}
use Rattle.mlt1.specs.declared.state.RunState.{RunState}
use Rattle.mlt1.specs.Left.{at_start}
use Rattle.bench.specs.declared.books.Books.{Books}
use Rattle.bench.specs.declared.books.Finding.{Finding}
use Rattle.bench.specs.declared.books.Finding.TheVariants.{Open, Sound, Faulty, Charted}

-- which finding it is
abbrev pub finding_number : Finding → ℕ
finding_number Open = 0
finding_number Sound = 1
finding_number (Faulty n) = 2
finding_number (Charted n) = 3

-- the misses that it names, or the blemished cells
abbrev pub finding_count : Finding → ℕ
finding_count Open = 0
finding_count Sound = 0
finding_count (Faulty n) = n
finding_count (Charted n) = n

-- a count of 64 bits that has risen by n
abbrev pub more : ℕ → ℕ → ℕ
more count n = min (count + n) (2 ^ 64 - 1)

-- the books of a new bench
abbrev pub new_books : Books
new_books = record { hand = 0; starts = 0; closes = 0; charts = 0; quits = 0; run = None; finding = Open }

-- the run in hand; without one, a run that has done nothing
abbrev pub run_in_hand : Books → RunState
run_in_hand b = unwrap_or b.run at_start

abbrev pub handled : Books → Books
handled b = record b { hand = more b.hand 1 }

abbrev pub started : Books → Books
started b = record b { starts = more b.starts 1; run = Some at_start }

abbrev pub with_run : RunState → Books → Books
with_run r b = record b { run = Some r }

-- what a run with so many misses finds
abbrev pub found : ℕ → Finding
found misses = cond (misses == 0) Sound (Faulty misses)

abbrev pub closed : Books → Books
closed b = record b { closes = more b.closes 1; run = None; finding = found (run_in_hand b).misses }

abbrev pub stopped : Books → Books
stopped b = record b { quits = more b.quits (run_in_hand b).place; run = None }

abbrev pub charted : ℕ → Books → Books
charted n b = record b { charts = more b.charts 1; finding = Charted n }

-- a run was started, done and closed with this finding
abbrev pub ran_whole : Finding → Books → Books
ran_whole f b = record b { starts = more b.starts 1; closes = more b.closes 1; run = None; finding = f }
