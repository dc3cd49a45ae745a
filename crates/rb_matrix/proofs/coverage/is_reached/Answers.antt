use Rattle.std.proofs.Common.{◌≡◌, Some, refl}
use Rattle.std.specs.Prelude.{slice_get}
use Rattle.std.proofs.lemmas.Option.{slice_get_read}
use Rattle.rb_matrix.proofs.Passing.{all-passed, number-answer}
use Rattle.rb_matrix.proofs.coverage.is_reached.Goals as goal

pub returns-then-passed : goal.returns-then-passed
returns-then-passed c =
    let pats = c.args.pats.now in let i = c.args.i in let p = c.index-pats-i.result in
    let at : slice_get pats i ≡ Some p = slice_get_read pats _ i p refl c.requires.within c.index-pats-i.is in
    all-passed c.args.types.now c.args.ty pats i p at c.args.passed.now c.requires.passed c.if-passed.true

pub returns-in-Num : goal.returns-in-Num
returns-in-Num c =
    let pats = c.args.pats.now in let i = c.args.i in let p = c.index-pats-i.result in
    let at : slice_get pats i ≡ Some p = slice_get_read pats _ i p refl c.requires.within c.index-pats-i.is in
    number-answer c.args.types.now c.args.ty pats i p at c.args.passed.now c.requires.passed _ _ c.in-Num.is c.if-passed.false _ c.is_new.ensures
