use Rattle.std.proofs.Common.{List, [], ◌∷◌, ◌++◌, Some, sym, subst, ◌∙◌}
use Rattle.rb_match.specs.declared.deep.Onward.{Onward}
use Rattle.rb_facts.specs.declared.knowledge.Known.{Known}
use Rattle.rb_facts.specs.declared.knowledge.Known.TheVariants as K
use Rattle.rb_match.specs.inner.Opening.{GoOn, LeadsFrom}
use Rattle.rb_facts.specs.Threading.{AllFollow}
use Rattle.rb_match.proofs.deep.onward_of.Goals as goal

pub returns : goal.returns
returns c =
    let agreed = c.args.agreed.now in
    let graph = c.args.graph.now in
    let node = c.in-Some-link_of.node in
    let link = sym (sym c.link_of.ensures ∙ c.in-Some-link_of.is) in
    let facts : List Known = c.args.test.now.known.now ++ K.Leaf c.args.test.now.position c.args.ty c.args.leaf ∷ [] in
    let known = c.carried_onward.result in
    let found : Onward = record { node = c.in_ok-number_of.field-0; saves = c.saves_at-saves.result; known = known } in
    let leads : LeadsFrom agreed graph facts node c.in_ok-end.end = subst (λ fs. LeadsFrom agreed graph fs node c.in_ok-end.end) c.in_ok-facts.ensures c.in_ok-end.ensures.leads in
    record {
      con = c.in-Some.con;
      is_con = sym c.con_of.ensures ∙ c.in-Some.is;
      goes = subst (λ l. GoOn (LeadsFrom agreed graph facts) l (Some found)) link (subst (λ m. LeadsFrom agreed graph facts node m) (sym c.in_ok-number_of.ensures) leads);
      shows = subst (λ fs. AllFollow agreed fs known) c.in_ok-facts.ensures (λ at of all. c.carried_onward.ensures at of (c.in_ok-end.ensures.known at of all));
    }
