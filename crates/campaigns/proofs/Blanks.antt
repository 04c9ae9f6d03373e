-- Records that were blanked.
use Rattle.std.proofs.Common.{◌≡◌, ℕ, ◌≤◌, List, map, length, get_or, take, drop, ap, ◌∙◌, arith}
use Rattle.std.proofs.lemmas.List.{get_or_append_left, length-append, length-map, length-take-le, get_or-map}
use Rattle.planes.specs.declared.word.WordRecord.{WordRecord}
use Rattle.planes.specs.Word.{blank_record}
use Rattle.planes.specs.Planes.{blanked}
use Rattle.campaigns.specs.Campaigns.{Blank}

pub blank_first : (n : ℕ) (rs xs : List WordRecord) → n ≤ length rs → xs ≡ blanked n rs → Blank n xs
blank_first n rs xs fits e =
    let front = map (λ (r : WordRecord). blank_record) (take n rs) in
    let count : length front ≡ n = length-map (take n rs) _ ∙ length-take-le n rs fits in
    record {
      enough = omega (arith, ap length e, length-append front (drop n rs));
      blank = λ k l. ap (λ xs. get_or xs k blank_record) e ∙ get_or_append_left front (drop n rs) blank_record k (omega arith)
          ∙ get_or-map _ (take n rs) k blank_record blank_record (omega (arith, length-take-le n rs fits));
    }
