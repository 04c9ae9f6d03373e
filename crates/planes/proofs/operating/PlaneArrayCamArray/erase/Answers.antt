use Rattle.std.proofs.Common.{◌<◌, ◌≤◌, length, vec_items, sym, refl, ap, ◌∙◌, ap₂, arith}
use Rattle.cam.proofs.Outside.{erased_outside}
use Rattle.planes.specs.Planes.{build_from, state_from}
use Rattle.planes.proofs.Rows.{erase_inside, build_same}
use Rattle.planes.proofs.operating.PlaneArrayCamArray.erase.Goals as goal
use Rattle.planes.proofs.operating.PlaneArrayCamArray.erase.Goals.{then-word-self, else-word-self}

pub returns : goal.returns
returns c =
    let s = c.args.self.now in
    let rs = vec_items s.records in
    let n = s.size.words in
    let w = s.size.width in
    let a = c.args.word.number in
    let fits : n ≤ length rs = omega (arith, s.records.ok.0) in
    let counted = c.one_more-self.ensures.next in
    elim c.if-word-self.branch [
      | then-word-self y ↦
          let inside : a < n = y.if-word-self.true in
          let read = y.index_mut.ensures.value in
          let e = ap (λ s. s.1.0) y.self-is in
          record {
            state_after_erase = ap₂ (λ v t. state_from n w (vec_items v) t) e counted
                ∙ erase_inside n rs a _ _ fits inside read w s.tally (λ j. refl) refl;
            build_stays = ap (λ v. build_from n w (vec_items v)) e ∙ build_same n rs a _ _ fits inside read w refl;
          }
      | else-word-self y ↦
          let e = ap (λ s. s.1.0) y.self-is in
          record {
            state_after_erase = ap₂ (λ v t. state_from n w (vec_items v) t) e counted ∙ sym (erased_outside (build_from n w rs) (state_from n w rs s.tally) a y.if-word-self.false);
            build_stays = ap (λ v. build_from n w (vec_items v)) e;
          }
    ]
