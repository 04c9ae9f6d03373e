use Rattle.std.proofs.Common.{◌≤◌, Bool, length, vec_items, refl, ap, ◌∙◌, arith, rules, tests}
use Rattle.std.proofs.lemmas.Iterator.{YieldsList-from_slice}
use Rattle.std.proofs.lemmas.Iterator.Search.{any_from_yields_List}
use Rattle.cam.specs.Model.{word_matches, any_below}
use Rattle.cam.proofs.Below.{any_of_list}
use Rattle.planes.specs.declared.word.WordRecord.{WordRecord}
use Rattle.planes.specs.Word.{wrong_of, shown, mark_of, blank_record}
use Rattle.planes.specs.Planes.{state_from, matches_in}
use Rattle.planes.proofs.Rows.{some_match}
use Rattle.planes.proofs.operating.PlaneArrayCamArray.compare.Goals as goal

pub returns : goal.returns
returns c =
    let s = c.args.self.now in
    let rs = vec_items s.records in
    let n = s.size.words in
    let w = s.size.width in
    let p = c.args.pattern in
    let m = c.args.mask in
    let fits : n ≤ length rs = omega (arith, s.records.ok.0) in
    let test : WordRecord → Bool = λ r. word_matches w (wrong_of r) p m (mark_of r) (shown w r) in
    record {
      some_word_matches = any_from_yields_List test _ _ c.any.result c.any.ensures.ran (YieldsList-from_slice c.used.result.now cc) (λ x b q k. search (rules, tests))
          ∙ any_of_list test blank_record c.used.result.now
          ∙ ap (λ xs. any_below (length xs) (matches_in w p m xs)) c.used.ensures.record_of_each_word
          ∙ some_match n w p m rs fits;
      only_counted = ap (state_from n w rs) c.one_more-self.ensures.next;
      build_stays = refl;
    }
