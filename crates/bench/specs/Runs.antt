-- The samples that a run holds, in either state.
use Rattle.std.specs.Prelude.{List, ℤ}
use Rattle.series.specs.Listed.{held}
use Rattle.bench.specs.declared.run.Run.{Run}

abbrev pub held_by : {State : _} → Run State → List ℤ
held_by r = held r.store
