use Rattle.std.proofs.Common.{ℕ, List, Result, Ok, Err, sym, ap, subst, ◌∙◌}
use Rattle.std.proofs.lemmas.Result.{err_from_is_err_and}
use Rattle.rb_edge.specs.Whole.{ReadsOnce}
use Rattle.rb_edge.specs.declared.whole.SourceFault.{SourceFault}
use Rattle.rb_edge.proofs.LeftLemmas.{once_ok, once_err}
use Rattle.rb_edge.proofs.whole.read_whole.Goals as goal

pub returns-in_err-bytes-clause-once : goal.returns-in_err-bytes-clause-once
returns-in_err-bytes-clause-once g c =
    let p = err_from_is_err_and c.from_residual-in_err-bytes.result c.from_residual-in_err-bytes.ensures.1 in
    subst (λ (r : Result (List ℕ) SourceFault). ReadsOnce g.S.Source.tells g.S.Source.held g.S.Source.readings c.args.source.now c.read_left.new.source c.args.name.now c.args.limit r)
    (sym (p.1 ∙ ap Err p.2)) (once_err g.S.Source.tells g.S.Source.held g.S.Source.left g.S.Source.readings c.args.source.now c.open_file.new.self c.read_left.new.source c.args.name.now c.args.limit
    c.in_ok-open_file.ensures.begun c.in_ok-open_file.ensures.same.tells_the_same c.in_ok-open_file.ensures.opened c.in_err-bytes.field-0.0 c.in_err-bytes.ensures.on)

pub returns-clause-once : goal.returns-clause-once
returns-clause-once g c =
    subst (λ (bytes : List ℕ). ReadsOnce g.S.Source.tells g.S.Source.held g.S.Source.readings c.args.source.now c.read_left.new.source c.args.name.now c.args.limit (Ok bytes))
    (sym c.from_vec.ensures) (once_ok g.S.Source.tells g.S.Source.held g.S.Source.left g.S.Source.readings c.args.source.now c.open_file.new.self c.read_left.new.source c.args.name.now c.args.limit
    c.in_ok-open_file.ensures.begun c.in_ok-open_file.ensures.same.tells_the_same c.in_ok-open_file.ensures.opened c.in_ok-bytes.bytes c.in_ok-bytes.ensures.on)
