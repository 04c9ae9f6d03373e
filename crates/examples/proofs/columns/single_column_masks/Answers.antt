use Rattle.std.proofs.Common.{refl}
use Rattle.cam.specs.Bits.{bit}
use Rattle.mlt1.proofs.Lengths.{length_is}
use Rattle.chart.proofs.Lengths.{chart_length_lem}
use Rattle.examples.proofs.columns.single_column_masks.Goals as goal

pub returns-clause-lengths_of_mlt1_and_chart : goal.returns-clause-lengths_of_mlt1_and_chart
returns-clause-lengths_of_mlt1_and_chart c =
    record {
      mlt1_1_1 = length_is 1 1;
      mlt1_3_3 = length_is 3 3;
      mlt1_256_64 = length_is 256 64;
      chart_1_1 = chart_length_lem 1 1;
      chart_256_64 = chart_length_lem 256 64;
    }

pub returns-clause-norise_cell_does_not_rise_again : goal.returns-clause-norise_cell_does_not_rise_again
unfolding bit
returns-clause-norise_cell_does_not_rise_again c = record { after_1 = refl; after_1_0 = refl; after_1_0_1 = refl }

pub returns-clause-judged_array_has_4_misses : goal.returns-clause-judged_array_has_4_misses
unfolding bit
returns-clause-judged_array_has_4_misses c = refl

pub returns-clause-faults_that_hide_each_other_are_found : goal.returns-clause-faults_that_hide_each_other_are_found
unfolding bit
returns-clause-faults_that_hide_each_other_are_found c = record { one_miss = refl; found_faulty = refl }

pub returns-clause-chart_tells_what_misses_do_not : goal.returns-clause-chart_tells_what_misses_do_not
unfolding bit
returns-clause-chart_tells_what_misses_do_not c =
    record { of_stuck_mark = refl; of_never_matching = refl; chart_of_stuck_mark = refl; chart_of_never_matching = refl }
