use Rattle.std.proofs.Common.{Ok, ap, ◌∙◌}
use Rattle.march.specs.Table.{elements_of}
use Rattle.words.specs.Readings.{on, off}
use Rattle.words.proofs.Rules.{pinned, same_fault}
use Rattle.sheets.specs.Sheets.{sheet_of}
use Rattle.sheets.proofs.Ones.{sheet_one}
use Rattle.sheets.proofs.Wholes.{sheet_whole}
use Rattle.sheets.proofs.sheet.read_sheet.Goals as goal

pub returns-in_err-check_length-clause-reading : goal.returns-in_err-check_length-clause-reading
returns-in_err-check_length-clause-reading c =
    rw (same_fault _ c.from_residual.ensures.1) (pinned (sheet_one _) (off (off c.in_err-check_length.ensures.reading.reads)))

pub returns-in_err-name-clause-reading : goal.returns-in_err-name-clause-reading
returns-in_err-name-clause-reading c =
    let k = c.in_ok-check_length.ensures.reading.reads in
    let n = c.new-cursor.ensures in
    let h = rw (n.whole_text, n.at_the_front) at c.in_err-name.ensures.reading.reads in
    rw (same_fault _ c.from_residual-in_err-name.ensures.1) (pinned (sheet_one _) (off (on k h)))

pub returns-in_err-read_lines-clause-reading : goal.returns-in_err-read_lines-clause-reading
returns-in_err-read_lines-clause-reading c =
    let k = c.in_ok-check_length.ensures.reading.reads in
    let n = c.new-cursor.ensures in
    let t = c.in_ok-name.ensures in
    let h = rw (n.whole_text, n.at_the_front) at t.reading.reads in
    let b = rw (t.goes_on.text_stays, n.whole_text, c.named-test.ensures.no_element) at c.in_err-read_lines.ensures.reading.reads in
    rw (same_fault _ c.from_residual-in_err-read_lines.ensures.1) (pinned (sheet_one _) (on (on k h) (off b)))

pub returns-in_err-want-clause-reading : goal.returns-in_err-want-clause-reading
returns-in_err-want-clause-reading c =
    let k = c.in_ok-check_length.ensures.reading.reads in
    let n = c.new-cursor.ensures in
    let t = c.in_ok-name.ensures in
    let h = rw (n.whole_text, n.at_the_front) at t.reading.reads in
    let l = c.in_ok-read_lines.ensures in
    let b = rw (t.goes_on.text_stays, n.whole_text, c.named-test.ensures.no_element) at l.reading.reads in
    let e = rw (l.goes_on.text_stays, t.goes_on.text_stays, n.whole_text) at c.in_err-want.ensures.reading.reads in
    rw (same_fault _ c.from_residual-in_err-want.ensures.1) (pinned (sheet_one _) (on (on k h) (on b (off e))))

pub returns-in_err-want-2-clause-reading : goal.returns-in_err-want-2-clause-reading
returns-in_err-want-2-clause-reading c =
    let k = c.in_ok-check_length.ensures.reading.reads in
    let n = c.new-cursor.ensures in
    let t = c.in_ok-name.ensures in
    let h = rw (n.whole_text, n.at_the_front) at t.reading.reads in
    let l = c.in_ok-read_lines.ensures in
    let b = rw (t.goes_on.text_stays, n.whole_text, c.named-test.ensures.no_element) at l.reading.reads in
    let f = c.in_ok-want.ensures in
    let e = rw (l.goes_on.text_stays, t.goes_on.text_stays, n.whole_text) at f.reading.reads in
    let g = rw (f.goes_on.text_stays, l.goes_on.text_stays, t.goes_on.text_stays, n.whole_text) at c.in_err-want-2.ensures.reading.reads in
    rw (same_fault _ c.from_residual-in_err-want-2.ensures.1) (pinned (sheet_one _) (on (on k h) (on b (on e (off g)))))

pub returns : goal.returns
returns c =
    let k = c.in_ok-check_length.ensures.reading.reads in
    let n = c.new-cursor.ensures in
    let t = c.in_ok-name.ensures in
    let h = rw (n.whole_text, n.at_the_front) at t.reading.reads in
    let l = c.in_ok-read_lines.ensures in
    let b = rw (t.goes_on.text_stays, n.whole_text, c.named-test.ensures.no_element) at l.reading.reads in
    let f = c.in_ok-want.ensures in
    let e = rw (l.goes_on.text_stays, t.goes_on.text_stays, n.whole_text) at f.reading.reads in
    let g = rw (f.goes_on.text_stays, l.goes_on.text_stays, t.goes_on.text_stays, n.whole_text) at c.in_ok-want-2.ensures.reading.reads in
    let named = l.name_stays ∙ c.named-test.ensures.its_name in
    let made = ap (λ n. Ok (record { name = n; elements = elements_of c.read_lines.new.test })) named in
    let z = on (on k h) (on b (on e (on g made))) in
    record { reading = pinned {r = sheet_of (Ok c.read_lines.new.test)} (sheet_one _) z; whole_test = sheet_whole _ _ z }
