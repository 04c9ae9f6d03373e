-- Texts written one after the other.
use Rattle.std.proofs.Common.{◌≡◌, ℕ, ◌+◌, ◌≤◌, List, [], ◌++◌, length, take, drop, sym, ap, ◌∙◌, append_assoc, add-zero, arith, take-append-drop}
use Rattle.std.proofs.lemmas.List.{take_at, drop_at, drop-drop, length-append, length-take-le}
use Rattle.cam.specs.Buffers.{over}

-- no text leaves the buffer as it is
pub over_nil : (b : List ℕ) (at : ℕ) → over b at [] ≡ b
over_nil b at = ap (λ (k : ℕ). take at b ++ drop k b) (add-zero at) ∙ take-append-drop at b

-- one text behind another is one longer text
pub over_over : (b x y : List ℕ) (at : ℕ) → at + length x + length y ≤ length b → over (over b at x) (at + length x) y ≡ over b at (x ++ y)
over_over b x y at l =
    let n = at + length x in
    let w = take at b ++ x in
    let apart : over b at x ≡ w ++ drop n b = sym (append_assoc (take at b) x (drop n b)) in
    let long : length w ≡ n = length-append (take at b) x ∙ ap (λ (k : ℕ). k + length x) (length-take-le at b (omega arith)) in
    let front : take n (over b at x) ≡ w = ap (take n) apart ∙ take_at w (drop n b) n long in
    let back : drop (n + length y) (over b at x) ≡ drop (n + length y) b =
    sym (drop-drop (length y) n (over b at x)) ∙ ap (drop (length y)) (ap (drop n) apart ∙ drop_at w (drop n b) n long) ∙ drop-drop (length y) n b in
    let far : n + length y ≡ at + length (x ++ y) = omega (arith, length-append x y) in
    (λ i. front i ++ (y ++ back i))
    ∙ append_assoc (take at b) x (y ++ drop (n + length y) b)
    ∙ ap (λ l. take at b ++ l) (sym (append_assoc x y (drop (n + length y) b)) ∙ ap (λ (k : ℕ). (x ++ y) ++ drop k b) far)

-- A text x stands in what was the buffer b, from a place on, and ends at another.
pub record Stands (b : List ℕ) (from : ℕ) (x : List ℕ) (to : ℕ) (new : List ℕ) : Type 0 where
  pub ends : to ≡ from + length x
  pub text : new ≡ over b from x

pub stands_more : (b : List ℕ) (from : ℕ) (x y : List ℕ) (at to : ℕ) (cur new : List ℕ)
    → Stands b from x at cur → new ≡ over cur at y → to ≡ at + length y → from + length x + length y ≤ length b → Stands b from (x ++ y) to new
stands_more b from x y at to cur new s n e l =
    record {
      ends = omega (arith, s.ends, length-append x y);
      text = n ∙ (λ i. over (s.text i) (s.ends i) y) ∙ over_over b x y from l;
    }
