use Rattle.std.proofs.Common.{◌≡◌, ℕ, ◌-◌, List, [], ◌∷◌, ◌++◌, length, map, ◌∙◌, ap, sym, arith, take, drop}
use Rattle.std.proofs.lemmas.List.{length-map}
use Rattle.rb_core.specs.declared.value.Value.{Con}
use Rattle.rb_values.specs.Nodes.{at}
use Rattle.rb_values.proofs.PostLemmas as posts
use Rattle.rb_values.proofs.builder.Builder.build.Goals as goal

pub invariant_of-self-in-Ok : goal.invariant_of-self-in-Ok
invariant_of-self-in-Ok c =
    let s : ℕ = c.len.result - c.args.n in
    let d : List ℕ = c.self.inside.done.items in
    let l : c.len.result ≡ length d = omega arith in
    let v : length d ≡ length c.args.self.now = sym (length-map d (at c.self.inside.nodes)) ∙ ap length c.self.view_is in
    let o = posts.built_con c.self.inside.nodes d s c.args.con c.self.invariant in
    let t : c.truncate.new.self.items ≡ take s d ++ length c.self.inside.nodes ∷ [] =
    c.truncate.ensures.items ∙ rw (c.in_ok-push.ensures.items, c.len-at.ensures) (posts.new_done d s (length c.self.inside.nodes) (omega arith)) in
    let k : c.push_build.new.self ≡ c.self.inside.nodes ++ Con c.args.con (map (at c.self.inside.nodes) (drop s d)) ∷ [] =
    (let e = c.in-Ok.ensures.ok in rw (c.deref.ensures.value, c.in_ok-push.ensures.items, posts.children_cut d s c.args.n c.len-at.result (omega (arith, c.requires, l, v))) at e)
    in
    rw (t, k) o.built

pub returns-in-Ok : goal.returns-in-Ok
returns-in-Ok c =
    let s : ℕ = c.len.result - c.args.n in
    let d : List ℕ = c.self.inside.done.items in
    let l : c.len.result ≡ length d = omega arith in
    let v : length d ≡ length c.args.self.now = sym (length-map d (at c.self.inside.nodes)) ∙ ap length c.self.view_is in
    let o = posts.built_con c.self.inside.nodes d s c.args.con c.self.invariant in
    let t : c.truncate.new.self.items ≡ take s d ++ length c.self.inside.nodes ∷ [] =
    c.truncate.ensures.items ∙ rw (c.in_ok-push.ensures.items, c.len-at.ensures) (posts.new_done d s (length c.self.inside.nodes) (omega arith)) in
    let k : c.push_build.new.self ≡ c.self.inside.nodes ++ Con c.args.con (map (at c.self.inside.nodes) (drop s d)) ∷ [] =
    (let e = c.in-Ok.ensures.ok in rw (c.deref.ensures.value, c.in_ok-push.ensures.items, posts.children_cut d s c.args.n c.len-at.result (omega (arith, c.requires, l, v))) at e)
    in
    rw (t, k) (o.shows ∙ (let e : s ≡ length c.args.self.now - c.args.n = omega (arith, l, v) in rw (← e) (posts.stack_after c.self.inside.nodes d c.args.self.now s c.args.con c.self.view_is)))
