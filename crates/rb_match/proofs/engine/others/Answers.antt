use Rattle.std.proofs.Common.{Bool, ap, filter, ◌==◌, ◌∙◌, not, rules}
use Rattle.std.proofs.lemmas.Fn.{filter_same}
use Rattle.rb_facts.specs.declared.knowledge.Edge.{Edge}
use Rattle.rb_match.proofs.Edges.{others_kept}
use Rattle.rb_match.proofs.engine.others.Goals as goal

pub returns : goal.returns
returns c =
    let leads_on : Edge → Bool = λ e. not (e.hole.leaf == c.args.node) in
    c.from_vec.ensures ∙ filter_same _ leads_on _ (λ x b f' k. search rules) _ _ c.retain.ensures.filtered ∙ ap (filter leads_on) c.into_vec-rest.ensures ∙ others_kept c.args.node c.args.edges
