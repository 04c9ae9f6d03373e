-- A line that is being made from its pieces.
use Rattle.std.proofs.Common.{◌≡◌, ℕ, ◌+◌, ◌<◌, ◌≤◌, List, [], ◌++◌, length, get_or, drop, decimal, sym, refl, ap, ◌∙◌, append_assoc, arith, length-append}
use Rattle.std.proofs.lemmas.List.{at_drop_more, drop_all}
use Rattle.cam.specs.Buffers.{over}
use Rattle.cam.proofs.Buffers.{Stands, stands_more, over_nil}
use Rattle.report.specs.Pieces.{Piece, line_of, longest}
use Rattle.report.specs.Text.{Made}

-- The first i pieces of a line stand at the front of what was the buffer b, up to a place.
pub record Writing (b : List ℕ) (ps : List Piece) (end : List ℕ) (i at : ℕ) (now : List ℕ) : Type 0 where
  pub text : List ℕ
  pub stands : Stands b 0 text at now
  pub line : text ++ line_of (drop i ps) end ≡ line_of ps end
  pub room : length text + longest (drop i ps) + length end ≤ 64

pub writing_none : (b : List ℕ) (ps : List Piece) (end : List ℕ) → longest ps + length end ≤ 64 → Writing b ps end 0 0 b
writing_none b ps end short = record { text = []; stands = record { ends = refl; text = sym (over_nil b 0) }; line = refl; room = omega arith }

-- one piece more
pub writing_more : (b : List ℕ) (ps : List Piece) (end : List ℕ) (i at mid to : ℕ) (now half new : List ℕ) (d : Piece)
    → i < length ps → 64 ≤ length b → Writing b ps end i at now
    → half ≡ over now at (get_or ps i d).0.now → mid ≡ at + length (get_or ps i d).0.now
    → new ≡ over half mid (decimal (get_or ps i d).1) → to ≡ mid + length (decimal (get_or ps i d).1)
    → length (decimal (get_or ps i d).1) ≤ 10
    → Writing b ps end (i + 1) to new
writing_more b ps end i at mid to now half new d l long w h m n t short =
    let p = get_or ps i d in
    let x = p.0.now in
    let y = decimal p.1 in
    let rest = at_drop_more (λ ps. line_of ps end) ps i d l in
    let most = at_drop_more longest ps i d l in
    let labelled = stands_more b 0 w.text x _ _ _ _ w.stands h m (omega (arith, w.room, most, long)) in
    let both = length-append w.text x in
    record {
      text = (w.text ++ x) ++ y;
      stands = stands_more b 0 (w.text ++ x) y _ _ _ _ labelled n t (omega (arith, w.room, most, long, both, short));
      line = append_assoc (w.text ++ x) y (line_of (drop (i + 1) ps) end) ∙ append_assoc w.text x (y ++ line_of (drop (i + 1) ps) end)
          ∙ ap (λ l. w.text ++ l) (sym rest) ∙ w.line;
      room = omega (arith, w.room, most, both, length-append (w.text ++ x) y, short);
    }

-- the end of the line after its last piece
pub writing_made : (b : List ℕ) (ps : List Piece) (end : List ℕ) (i at n : ℕ) (now new : List ℕ)
    → length ps ≤ i → 64 ≤ length b → Writing b ps end i at now
    → new ≡ over now at end → n ≡ at + length end → Made (line_of ps end) n b new
writing_made b ps end i at n now new l long w e m =
    let whole : w.text ++ end ≡ line_of ps end = ap (λ ps. w.text ++ line_of ps end) (sym (drop_all i ps l)) ∙ w.line in
    let s = stands_more b 0 w.text end _ _ _ _ w.stands e m (omega (arith, w.room, long)) in
    (omega (arith, s.ends, ap length whole), s.text ∙ ap (over b 0) whole)
