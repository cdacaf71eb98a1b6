use Rattle.std.proofs.Common.{◌≡◌, ◌+◌, ◌/◌, Some, None, ap, ◌∙◌, mod-lt, arith, rules}
use Rattle.statistics.specs.ReadOut.{share}
use Rattle.statistics.proofs.Shares.{share_pieces, places_few, past_many}
use Rattle.statistics.proofs.Totals.{fits_word, past_word}
use Rattle.statistics.proofs.read_out.share_of.Goals as goal

pub returns : goal.returns
returns c =
    let few = places_few _ c.args.divisor c.twelve_places-places.result (mod-lt c.args.total c.requires) c.twelve_places-places.ensures in
    let e = share_pieces c.args.total c.args.divisor c.twelve_places-places.result c.requires c.twelve_places-places.ensures in
    let w : c.in_ok-checked_mul.field-0 + c.twelve_places-places.result ≡ share c.args.total c.args.divisor = omega (arith, e, c.in_ok-checked_mul.ensures) in
    ap Some w ∙ fits_word _ (omega (arith, w, few, c.in_ok-checked_mul.ensures))

pub returns-in_err-checked_mul : goal.returns-in_err-checked_mul
returns-in_err-checked_mul c =
    let e = share_pieces c.args.total c.args.divisor c.twelve_places-places.result c.requires c.twelve_places-places.ensures in
    let n : c.from_residual.result ≡ None = search rules in
    n ∙ past_word _ (past_many (c.args.total / c.args.divisor) c.twelve_places-places.result (share c.args.total c.args.divisor) c.in_err-checked_mul.ensures e)
