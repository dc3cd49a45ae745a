use Rattle.std.proofs.Common.{subst, sym}
use Rattle.rb_trim.specs.declared.fact.Content.{Content}
use Rattle.rb_trim.specs.declared.fact.Content.TheVariants.{Same, Computed, Loaded}
use Rattle.rb_trim.specs.inner.Following.{IsAsMuch}
use Rattle.rb_trim.proofs.Facts.{much_same, much_computed, much_loaded}
use Rattle.rb_trim.proofs.knowing.resolve.Goals as goal

pub returns-in-Same : goal.returns-in-Same
returns-in-Same c =
    subst (λ (x : Content). IsAsMuch c.args.facts.now x (Same c.source.result)) (sym c.in-Same.is)
    (much_same c.args.facts.now c.in-Same.from c.source.result c.source.ensures)

pub returns-in-Part : goal.returns-in-Part
returns-in-Part c = subst (λ (x : Content). IsAsMuch c.args.facts.now x c.part.result) (sym c.in-Part.is) c.part.ensures

pub returns-in-Computed : goal.returns-in-Computed
returns-in-Computed c =
    subst (λ (x : Content). IsAsMuch c.args.facts.now x (Computed c.in-Computed.op c.in-Computed.bits c.source-from_a.result c.source-from_b.result)) (sym c.in-Computed.is)
    (much_computed c.args.facts.now c.in-Computed.op c.in-Computed.bits c.in-Computed.a c.in-Computed.b
    c.source-from_a.result c.source-from_b.result c.source-from_a.ensures c.source-from_b.ensures)

pub returns-in-Loaded : goal.returns-in-Loaded
returns-in-Loaded c =
    subst (λ (x : Content). IsAsMuch c.args.facts.now x (Loaded c.source-in-Loaded.result c.in-Loaded.offset c.in-Loaded.width)) (sym c.in-Loaded.is)
    (much_loaded c.args.facts.now c.in-Loaded.base c.source-in-Loaded.result c.in-Loaded.offset c.in-Loaded.width c.source-in-Loaded.ensures)
