use Rattle.std.proofs.Common.{◌≡◌, length, ◌∙◌, ap, arith}
use Rattle.rb_core.specs.Values.{subs}
use Rattle.rb_values.specs.Nodes.{at}
use Rattle.rb_values.specs.Linking.{children}
use Rattle.rb_core.proofs.ValueLaws as eqs
use Rattle.rb_values.proofs.NodeLemmas as nodes
use Rattle.rb_values.proofs.nodes.Nodes.layer.Goals as goal

pub index-requires : goal.index-requires
index-requires c = let l = nodes.length_is c.self.inside.links.items c.self.inside.nodes.items c.args.self.now c.self.view_is in omega (arith, l)

pub returns-in-Number : goal.returns-in-Number
returns-in-Number c = nodes.number_at c.self.inside.links.items c.self.inside.nodes.items c.args.self.now c.args.i c.in-Number.n c.index.result.now c.self.invariant c.self.view_is c.requires c.index.ensures c.in-Number.is

pub returns-in-Build : goal.returns-in-Build
returns-in-Build c = let b = nodes.build_at c.self.inside.links.items c.self.inside.nodes.items c.args.self.now c.args.i c.in-Build.con c.in-Build.field-1 c.in-Build.count c.index.result.now c.self.invariant c.self.view_is c.requires c.index.ensures c.in-Build.is in
    let s : subs (at c.args.self.now c.args.i) ≡ children c.args.self.now c.self.inside.links.items c.in-Build.field-1 c.in-Build.count = ap subs b.built ∙ eqs.subs-Con _ _ in
    (rw s b.built, ap length s ∙ nodes.children-len c.args.self.now c.self.inside.links.items c.in-Build.field-1 c.in-Build.count)
