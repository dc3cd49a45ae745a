use Rattle.std.proofs.Common.{◌≡◌, ◌+◌, ◌<◌, [], length, ◌∙◌, ap, sym, arith, get_or}
use Rattle.std.proofs.lemmas.Grind.{common_steps}
use Rattle.rb_core.specs.Values.{subs}
use Rattle.rb_values.specs.Nodes.{at}
use Rattle.rb_values.specs.Linking.{children}
use Rattle.rb_core.proofs.ValueLaws as eqs
use Rattle.rb_values.proofs.NodeLemmas as nodes
use Rattle.rb_values.proofs.nodes.Nodes.child.Goals as goal

pub index-requires : goal.index-requires
index-requires c = let l = nodes.length_is c.self.inside.links.items c.self.inside.nodes.items c.args.self.now c.self.view_is in omega (arith, l)

pub overflow_add-first : goal.overflow_add-first
overflow_add-first c = let b = nodes.build_at c.self.inside.links.items c.self.inside.nodes.items c.args.self.now c.args.i c.in-Build.field-0 c.in-Build.first c.in-Build.field-2 c.index.result.now c.self.invariant c.self.view_is c.requires.within c.index.ensures c.in-Build.is in
    let s : subs (at c.args.self.now c.args.i) ≡ children c.args.self.now c.self.inside.links.items c.in-Build.first c.in-Build.field-2 = ap subs b.built ∙ eqs.subs-Con _ _ in
    let n = ap length s ∙ nodes.children-len c.args.self.now c.self.inside.links.items c.in-Build.first c.in-Build.field-2 in
    let j : c.args.j < c.in-Build.field-2 = omega (arith, n) in
    omega (arith, b.within)

pub index-requires-in-Build : goal.index-requires-in-Build
index-requires-in-Build c = let b = nodes.build_at c.self.inside.links.items c.self.inside.nodes.items c.args.self.now c.args.i c.in-Build.field-0 c.in-Build.first c.in-Build.field-2 c.index.result.now c.self.invariant c.self.view_is c.requires.within c.index.ensures c.in-Build.is in
    let s : subs (at c.args.self.now c.args.i) ≡ children c.args.self.now c.self.inside.links.items c.in-Build.first c.in-Build.field-2 = ap subs b.built ∙ eqs.subs-Con _ _ in
    let n = ap length s ∙ nodes.children-len c.args.self.now c.self.inside.links.items c.in-Build.first c.in-Build.field-2 in
    let j : c.args.j < c.in-Build.field-2 = omega (arith, n) in
    omega (arith, b.within)

pub returns-in-Number-clause-below : goal.returns-in-Number-clause-below
returns-in-Number-clause-below c = let e = nodes.number_at c.self.inside.links.items c.self.inside.nodes.items c.args.self.now c.args.i c.in-Number.field-0 c.index.result.now c.self.invariant c.self.view_is c.requires.within c.index.ensures c.in-Number.is in let s : subs (at c.args.self.now c.args.i) ≡ [] = ap subs e ∙ eqs.subs-Num _ in absurd (omega (arith, ap length s, c.requires.child))

pub returns-in-Number-clause-value : goal.returns-in-Number-clause-value
returns-in-Number-clause-value c = let e = nodes.number_at c.self.inside.links.items c.self.inside.nodes.items c.args.self.now c.args.i c.in-Number.field-0 c.index.result.now c.self.invariant c.self.view_is c.requires.within c.index.ensures c.in-Number.is in let s : subs (at c.args.self.now c.args.i) ≡ [] = ap subs e ∙ eqs.subs-Num _ in absurd (omega (arith, ap length s, c.requires.child))

pub returns-in-Build-clause-below : goal.returns-in-Build-clause-below
returns-in-Build-clause-below c = let b = nodes.build_at c.self.inside.links.items c.self.inside.nodes.items c.args.self.now c.args.i c.in-Build.field-0 c.in-Build.first c.in-Build.field-2 c.index.result.now c.self.invariant c.self.view_is c.requires.within c.index.ensures c.in-Build.is in
    let s : subs (at c.args.self.now c.args.i) ≡ children c.args.self.now c.self.inside.links.items c.in-Build.first c.in-Build.field-2 = ap subs b.built ∙ eqs.subs-Con _ _ in
    let n = ap length s ∙ nodes.children-len c.args.self.now c.self.inside.links.items c.in-Build.first c.in-Build.field-2 in
    let j : c.args.j < c.in-Build.field-2 = omega (arith, n) in
    let e : get_or c.self.inside.links.items (c.in-Build.first + c.args.j) 0 ≡ c.index-in-Build.result.now = grind (arith, common_steps, b.within) in omega (arith, b.below c.args.j j, e)

pub returns-in-Build-clause-value : goal.returns-in-Build-clause-value
returns-in-Build-clause-value c = let b = nodes.build_at c.self.inside.links.items c.self.inside.nodes.items c.args.self.now c.args.i c.in-Build.field-0 c.in-Build.first c.in-Build.field-2 c.index.result.now c.self.invariant c.self.view_is c.requires.within c.index.ensures c.in-Build.is in
    let s : subs (at c.args.self.now c.args.i) ≡ children c.args.self.now c.self.inside.links.items c.in-Build.first c.in-Build.field-2 = ap subs b.built ∙ eqs.subs-Con _ _ in
    let n = ap length s ∙ nodes.children-len c.args.self.now c.self.inside.links.items c.in-Build.first c.in-Build.field-2 in
    let j : c.args.j < c.in-Build.field-2 = omega (arith, n) in
    let e : get_or c.self.inside.links.items (c.in-Build.first + c.args.j) 0 ≡ c.index-in-Build.result.now = grind (arith, common_steps, b.within) in
    let k = nodes.children-get c.args.self.now c.self.inside.links.items c.in-Build.first c.in-Build.field-2 c.args.j j in ap (at c.args.self.now) (sym e) ∙ sym k ∙ ap (λ vs. at vs c.args.j) (sym s)
