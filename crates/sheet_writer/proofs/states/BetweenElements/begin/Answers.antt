use Rattle.std.proofs.Common.{◌≡◌, ℕ, ◌+◌, ◌≤◌, List, ◌++◌, length, codes, ap, ◌∙◌, append_assoc, arith, length-append}
use Rattle.std.proofs.lemmas.Grind.{common_steps}
use Rattle.cam.specs.Buffers.{over}
use Rattle.cam.proofs.Buffers.{Stands, stands_more}
use Rattle.sheet_writer.specs.Sheets.{beginning}
use Rattle.sheet_writer.specs.Writing.{between}
use Rattle.sheet_writer.proofs.states.BetweenElements.begin.Goals as goal

-- the length of a beginning
long : (name : List ℕ) → 0 + length (beginning name) ≡ 7 + length name
long name = omega (arith, length-append name (codes "\n"))

pub returns : goal.returns
returns c =
    let name = c.args.name.now in
    let b = c.args.buffer.now in
    let n = c.as_bytes-name.result.now in
    let same : n ≡ name = c.as_bytes-name.ensures.letters ∙ c.in_ok-name.ensures.that_name in
    let x = codes "(test " in
    let y = codes "\n" in
    let room : length (beginning name) ≤ length b = omega (arith, long name, ap length same, c.if-buffer-name.false) in
    let first : Stands b 0 x c.put_text-at.result c.put_text-at.new.buffer =
    record { ends = c.put_text-at.ensures.place_after; text = c.put_text-at.ensures.written_over } in
    let second = stands_more b 0 x n _ _ _ _ first c.put_text-at-2.ensures.written_over c.put_text-at-2.ensures.place_after (omega (arith, c.if-buffer-name.false)) in
    let third = stands_more b 0 (x ++ n) y _ _ _ _ second c.put_text-at-3.ensures.written_over c.put_text-at-3.ensures.place_after (omega (arith, c.if-buffer-name.false, length-append x n)) in
    let whole : (x ++ n) ++ y ≡ beginning name = append_assoc x n y ∙ ap beginning same in
    let place : c.put_text-at-3.result ≡ length (beginning name) = omega (arith, third.ends, ap length whole) in
    record {
      asks_in_order = grind (arith, common_steps, room, c.in_ok-name.name.allowed, c.in_ok-name.ensures.that_name);
      sheet_begun = (ap (λ (k : ℕ). between k 0) place, third.text ∙ ap (over b 0) whole);
    }
