use Rattle.std.proofs.Common.{ℕ, List, Some, None, get_or, sym, ap, ◌∙◌}
use Rattle.std.specs.Option.{option_copied}
use Rattle.std.proofs.lemmas.List.{drop_all}
use Rattle.std.proofs.lemmas.Option.{slice_get-get_or}
use Rattle.rb_agree.specs.inner.Sharing.{con_from, con_at}
use Rattle.rb_agree.proofs.Grouping.{con-next}
use Rattle.rb_agree.proofs.sharing.con_at.Goals as goal

pub loop-field-preserved : goal.loop-field-preserved
loop-field-preserved c =
    let path = c.args.path.now in let i = c.loop-field.field-index in
    con-next c.loop-field.here.now path i (get_or path i 0) (Some c.in-Some.sub.now) (con_at c.args.pat.now path) (slice_get-get_or path i 0 c.loop-field-test.true)
    (sym (ap option_copied c.in-Some.is) ∙ c.sub_at.ensures) c.loop-field.invariant

pub returns-in-None : goal.returns-in-None
returns-in-None c =
    let path = c.args.path.now in let i = c.loop-field.field-index in
    con-next c.loop-field.here.now path i (get_or path i 0) None (con_at c.args.pat.now path) (slice_get-get_or path i 0 c.loop-field-test.true)
    (sym (ap option_copied c.in-None.is) ∙ c.sub_at.ensures) c.loop-field.invariant

pub returns : goal.returns
returns c =
    let path = c.args.path.now in let i = c.loop-field.field-index in
    c.root_con.ensures ∙ ap (λ (q : List ℕ). con_from (Some c.loop-field.here.now) q) (sym (drop_all i path c.loop-field-test.false)) ∙ c.loop-field.invariant
