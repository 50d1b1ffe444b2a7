use Rattle.std.proofs.Common.{◌/◌, ◌^◌, ◌<◌, subst, sym, arith}
use Rattle.std.proofs.Math.Nat.{div-le_self}
use Rattle.flow_texts.proofs.sets.BitRuns.{IsNextOne, next_one}
use Rattle.flow_texts.proofs.members.next_one.Goals as goal

pub returns-clause-before : goal.returns-clause-before
returns-clause-before c =
    let fits : c.args.word / 2 ^ c.args.from < 2 ^ 64 = omega (arith, c.ranges.word.fits, div-le_self c.args.word (2 ^ c.args.from)) in
    let low : c.args.from < 64 = omega (arith, c.requires, c.if-from-eq64.false) in
    let found : IsNextOne c.args.word c.args.from c.min.result =
    subst (IsNextOne c.args.word c.args.from) (sym c.min.ensures) (next_one c.args.word c.args.from fits low) in
    found.before

pub returns-clause-one : goal.returns-clause-one
returns-clause-one c =
    let fits : c.args.word / 2 ^ c.args.from < 2 ^ 64 = omega (arith, c.ranges.word.fits, div-le_self c.args.word (2 ^ c.args.from)) in
    let low : c.args.from < 64 = omega (arith, c.requires, c.if-from-eq64.false) in
    let found : IsNextOne c.args.word c.args.from c.min.result =
    subst (IsNextOne c.args.word c.args.from) (sym c.min.ensures) (next_one c.args.word c.args.from fits low) in
    found.one
