use Rattle.std.proofs.Common.{◌≡◌, List, true, false, sym, subst, ◌∙◌}
use Rattle.rb_target.specs.inner.Reading.{is_done}
use Rattle.rb_target.specs.Stopping.{IsTextOf}
use Rattle.rb_target.specs.declared.code.CodeFun.{CodeFun}
use Rattle.rb_target.proofs.StopLemmas.{stops_at_end, read_whole, whole_only}
use Rattle.rb_target.proofs.read.text.read_text.Goals as goal

pub returns-then-not-is_done-clause-reading : goal.returns-then-not-is_done-clause-reading
returns-then-not-is_done-clause-reading c =
    let p = c.in_ok-reader.reader in
    let undone : is_done p ≡ false = cc (c.is_done.ensures, c.if-not-is_done.true) in
    stops_at_end c.args.bytes.now p c.in_ok-reader.ensures undone

pub returns-clause-reading : goal.returns-clause-reading
returns-clause-reading c =
    let p = c.in_ok-reader.reader in
    let done : is_done p ≡ true = cc (c.is_done.ensures, c.if-not-is_done.false) in
    subst (λ (fs : List CodeFun). IsTextOf c.args.bytes.now fs) (sym c.into_funs.ensures) (read_whole c.args.bytes.now p c.in_ok-reader.ensures done)

pub returns-clause-only : goal.returns-clause-only
returns-clause-only c funs text = c.into_funs.ensures ∙ (whole_only c.args.bytes.now c.in_ok-reader.reader funs c.in_ok-reader.ensures text).1
