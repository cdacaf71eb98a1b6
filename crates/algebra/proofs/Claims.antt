use Rattle.algebra.specs.Claims.{SumLaws, SquareLaws, SecondLaws, StepLaws, WindowLaws, TrendLaws, OddMirrorLaws, EvenMirrorLaws}
use Rattle.algebra.proofs.Sizes.{abs_sum}
use Rattle.algebra.proofs.Sums.{sum_n_cong, sum_n_split, sum_n_more, sum_n_turn, sum_n_scale, sum_n_add, sum_n_swap, sum_z_cong, sum_z_split, sum_z_more, sum_z_turn, sum_z_scale, sum_z_add, sum_z_swap}
use Rattle.algebra.proofs.Squares.{square_is, square_times}
use Rattle.algebra.proofs.Differences.{step_drift, step_turn, second_ramp, second_turn}
use Rattle.algebra.proofs.Windows.{onward_ramp, onward_turn}
use Rattle.algebra.proofs.Trends.{detrend_ramp, detrend_turn, detrend_within}
use Rattle.algebra.proofs.Mirrors.{odd_ramp, odd_turn, odd_within, even_again, even_scaled, even_up, even_down}

pub sum_laws_lem : SumLaws
sum_laws_lem = record {
  same = sum_n_cong;
  split = sum_n_split;
  more = sum_n_more;
  turn = sum_n_turn;
  scale = sum_n_scale;
  add = sum_n_add;
  swap = sum_n_swap;
  same_z = sum_z_cong;
  split_z = sum_z_split;
  more_z = sum_z_more;
  turn_z = sum_z_turn;
  scale_z = sum_z_scale;
  add_z = sum_z_add;
  swap_z = sum_z_swap;
  size_z = abs_sum;
}

pub square_laws_lem : SquareLaws
square_laws_lem = record { is = square_is; times = square_times }

pub second_laws_lem : SecondLaws
second_laws_lem = record { ramp = second_ramp; turn = second_turn }

pub step_laws_lem : StepLaws
step_laws_lem = record { drift = step_drift; turn = step_turn }

pub window_laws_lem : WindowLaws
window_laws_lem = record { ramp = onward_ramp; turn = onward_turn }

pub trend_laws_lem : TrendLaws
trend_laws_lem = record { ramp = detrend_ramp; turn = detrend_turn; within = detrend_within }

pub odd_mirror_laws_lem : OddMirrorLaws
odd_mirror_laws_lem = record { ramp = odd_ramp; turn = odd_turn; within = odd_within }

pub even_mirror_laws_lem : EvenMirrorLaws
even_mirror_laws_lem = record { again = even_again; scaled = even_scaled; up = even_up; down = even_down }
