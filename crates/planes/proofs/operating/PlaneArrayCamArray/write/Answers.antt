use Rattle.std.proofs.Common.{◌<◌, ◌≤◌, length, vec_items, sym, ap, ◌∙◌, ap₂, arith}
use Rattle.cam.proofs.Outside.{written_outside}
use Rattle.planes.specs.Planes.{build_from, state_from}
use Rattle.planes.proofs.Rows.{write_inside, build_same}
use Rattle.planes.proofs.operating.PlaneArrayCamArray.write.Goals as goal
use Rattle.planes.proofs.operating.PlaneArrayCamArray.write.Goals.{then-word-self, else-word-self}

pub returns : goal.returns
returns c =
    let s = c.args.self.now in
    let rs = vec_items s.records in
    let n = s.size.words in
    let w = s.size.width in
    let a = c.args.word.number in
    let p = c.args.pattern in
    let m = c.args.mask in
    let fits : n ≤ length rs = omega (arith, s.records.ok.0) in
    let counted = c.one_more-self.ensures.next in
    elim c.if-word-self.branch [
      | then-word-self y ↦
          let inside : a < n = y.if-word-self.true in
          let read = y.index_mut.ensures.value in
          let done = y.write.ensures in
          let e = ap (λ s. s.1.0) y.self-is in
          record {
            state_after_write = ap₂ (λ v t. state_from n w (vec_items v) t) e counted
                ∙ write_inside n rs a _ _ fits inside read w s.tally p m (λ j. done.cells w j s.few_bits) done.mark_set_unless_stuck;
            build_stays = ap (λ v. build_from n w (vec_items v)) e ∙ build_same n rs a _ _ fits inside read w done.defects_stay;
          }
      | else-word-self y ↦
          let e = ap (λ s. s.1.0) y.self-is in
          record {
            state_after_write = ap₂ (λ v t. state_from n w (vec_items v) t) e counted ∙ sym (written_outside (build_from n w rs) (state_from n w rs s.tally) a p m y.if-word-self.false);
            build_stays = ap (λ v. build_from n w (vec_items v)) e;
          }
    ]
