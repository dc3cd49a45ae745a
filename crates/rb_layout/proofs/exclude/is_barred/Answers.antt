use Rattle.std.proofs.Common.{[], sym, ap, subst, ◌∙◌}
use Rattle.std.specs.Prelude.{IsTrue, ◌↔◌}
use Rattle.rb_layout.specs.Excluded.{Bars}
use Rattle.rb_layout.specs.inner.Barring.{position_type, knows, word_barred, AreAsked}
use Rattle.rb_layout.specs.inner.Finding.{with_parts, AreFresh}
use Rattle.rb_layout.proofs.FindLemmas.{parts-asked, parts-fresh}
use Rattle.rb_layout.proofs.Excluding.{decided}
use Rattle.rb_layout.proofs.exclude.is_barred.Goals as goal

pub find_all-requires-clause-asked : goal.find_all-requires-clause-asked
find_all-requires-clause-asked c =
    let type_of = position_type c.args.types.now c.args.leaf.now.prov in
    let parts = c.args.word.now.parts in
    let is = c.in_ok-add_parts.ensures ∙ ap (λ es. with_parts type_of c.args.literal es c.as_slice-parts.result.now) c.new-entries.ensures
    ∙ ap (with_parts type_of c.args.literal []) c.as_slice-parts.ensures in
    subst AreAsked (sym is) (parts-asked type_of c.args.literal [] parts c.requires (λ k e h. absurd cc))

pub find_all-requires-clause-fresh : goal.find_all-requires-clause-fresh
find_all-requires-clause-fresh c =
    let type_of = position_type c.args.types.now c.args.leaf.now.prov in
    let parts = c.args.word.now.parts in
    let is = c.in_ok-add_parts.ensures ∙ ap (λ es. with_parts type_of c.args.literal es c.as_slice-parts.result.now) c.new-entries.ensures
    ∙ ap (with_parts type_of c.args.literal []) c.as_slice-parts.ensures in
    subst AreFresh (sym is) (parts-fresh type_of c.args.literal [] parts (λ k e h. absurd cc))

pub returns : goal.returns
returns c =
    let types = c.args.types.now in let layouts = c.args.layouts.now in
    let leaf = c.args.leaf.now in let word = c.args.word.now in let x = c.args.literal in
    let type_of = position_type types leaf.prov in
    let first = c.in_ok-add_parts.ensures ∙ ap (λ es. with_parts type_of x es c.as_slice-parts.result.now) c.new-entries.ensures
    ∙ ap (with_parts type_of x []) c.as_slice-parts.ensures in
    let is = c.word_barred.ensures ∙ ap (word_barred (knows c.settle.new.entries) type_of x) c.as_slice-parts.ensures in
    let all = decided types layouts leaf word x c.add_parts.new.entries c.find_all.new.entries c.settle.new.entries first c.in_ok-find_all.ensures c.settle.ensures in
    subst (λ b. IsTrue b ↔ Bars types layouts leaf word x.o x.l x.bits) (sym is) all
