use Rattle.std.proofs.Common.{◌≡◌, [], length, ◌∙◌, arith, rules}
use Rattle.rb_values.specs.Linking.{values_from}
use Rattle.rb_values.proofs.NodeLemmas as nodes
use Rattle.rb_values.proofs.nodes.Nodes.push_build.Goals as goal

pub invariant_of-self-in_err-push : goal.invariant_of-self-in_err-push
invariant_of-self-in_err-push c = rw (c.in_err-push.ensures.items, c.in_ok-extend_from_slice.ensures.items) (nodes.still_below c.self.inside.links.items c.args.children.now c.self.inside.nodes.items c.self.invariant)

pub returns-in_err-push-clause-err : goal.returns-in_err-push-clause-err
returns-in_err-push-clause-err c = let p : values_from c.extend_from_slice.new.self.items c.push.new.self.items [] ≡ c.args.self.now =
    rw (c.in_err-push.ensures.items, c.in_ok-extend_from_slice.ensures.items) (nodes.more c.self.inside.links.items c.args.children.now c.self.inside.nodes.items [] 0 c.self.invariant ∙ c.self.view_is) in
    search (rules, p)

pub invariant_of-self-2 : goal.invariant_of-self-2
invariant_of-self-2 c = let f : c.len-first.result ≡ length c.self.inside.links.items = omega arith in
    rw (c.in_ok-push.ensures.items, c.in_ok-extend_from_slice.ensures.items, f) (nodes.build_all_below c.self.inside.links.items c.args.children.now c.self.inside.nodes.items c.args.self.now c.args.con c.self.invariant c.self.view_is c.requires)

pub returns-clause-ok : goal.returns-clause-ok
returns-clause-ok c = let f : c.len-first.result ≡ length c.self.inside.links.items = omega arith in
    rw (c.in_ok-push.ensures.items, c.in_ok-extend_from_slice.ensures.items, f) (nodes.build_pushed c.self.inside.links.items c.args.children.now c.self.inside.nodes.items c.args.self.now c.args.con c.self.invariant c.self.view_is)
