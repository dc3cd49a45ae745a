use Rattle.std.proofs.Common.{◌≡◌, length, Some, refl, sym, subst, ap, ◌∙◌}
use Rattle.std.specs.Prelude.{slice_get}
use Rattle.std.specs.Option.{option_copied}
use Rattle.std.proofs.lemmas.Option.{slice_get_read}
use Rattle.std.proofs.lemmas.Result.{on_ok_weaker}
use Rattle.rb_core.specs.TypedPrograms.{IsTyped}
use Rattle.rb_layout.specs.Flattening.{flat_layouts}
use Rattle.rb_coding.specs.FewFields.{HaveFewFields}
use Rattle.rb_coding.proofs.FewFields.{few_fields}
use Rattle.rb_coding.proofs.OpenLemmas.{some_leaf, leaf_there, loadable, planned}
use Rattle.rb_coding.proofs.todo.open.Goals as goal

pub leaf_number-requires-clause-leads : goal.leaf_number-requires-clause-leads
leaf_number-requires-clause-leads g c =
    let p = c.args.agreed.now.covered.program in
    let m = g.M.ByteMemory.memory c.args.memory.now in
    let typed : IsTyped p = rw c.covered.ensures.same at c.program.ensures.typed in
    let r = c.requires.represented in
    let ls = c.layouts-layouts.result.now in
    let l = c.in-Some.ensures.lookup in
    let is_layout : slice_get (flat_layouts p) c.args.ty ≡ Some c.in-Some.layout.now = ap (λ xs. slice_get xs c.args.ty) (sym (c.layouts-layouts.ensures.same ∙ c.layouts-layouts.ensures.flat)) ∙ slice_get_read ls (length ls) c.args.ty c.in-Some.layout.now refl l.3.0 l.1 in
    some_leaf p typed c.layouts-layouts.ensures.agree m c.requires.good c.args.ty c.args.words.now c.in-Some.layout.now is_layout r.0 r.1

pub unreachable-requires-in-None-get : goal.unreachable-requires-in-None-get
unreachable-requires-in-None-get g c =
    let p = c.args.agreed.now.covered.program in
    let m = g.M.ByteMemory.memory c.args.memory.now in
    let typed : IsTyped p = rw c.covered.ensures.same at c.program.ensures.typed in
    let r = c.requires.represented in
    let ls = c.layouts-layouts.result.now in
    let l = c.in-Some.ensures.lookup in
    let is_layout : slice_get (flat_layouts p) c.args.ty ≡ Some c.in-Some.layout.now = ap (λ xs. slice_get xs c.args.ty) (sym (c.layouts-layouts.ensures.same ∙ c.layouts-layouts.ensures.flat)) ∙ slice_get_read ls (length ls) c.args.ty c.in-Some.layout.now refl l.3.0 l.1 in
    leaf_there p typed c.layouts-layouts.ensures.agree m c.requires.good c.args.ty c.args.words.now c.in-Some.layout.now is_layout c.leaf_number.result c.leaf_number.ensures
    (sym c.get-2.ensures.value ∙ ap option_copied c.in-None-get.is) r.0 r.1

pub load_blocks-requires-clause-placed : goal.load_blocks-requires-clause-placed
load_blocks-requires-clause-placed g c =
    let p = c.args.agreed.now.covered.program in
    let m = g.M.ByteMemory.memory c.args.memory.now in
    let typed : IsTyped p = rw c.covered.ensures.same at c.program.ensures.typed in
    let r = c.requires.represented in
    let ls = c.layouts-layouts.result.now in
    let l = c.in-Some.ensures.lookup in
    let is_layout : slice_get (flat_layouts p) c.args.ty ≡ Some c.in-Some.layout.now = ap (λ xs. slice_get xs c.args.ty) (sym (c.layouts-layouts.ensures.same ∙ c.layouts-layouts.ensures.flat)) ∙ slice_get_read ls (length ls) c.args.ty c.in-Some.layout.now refl l.3.0 l.1 in
    loadable p typed c.layouts-layouts.ensures.agree m c.requires.good c.args.ty c.args.words.now c.in-Some.layout.now is_layout c.leaf_number.result c.leaf_number.ensures c.in-Some-get.leaf.now
    (sym c.get-2.ensures.value ∙ ap option_copied c.in-Some-get.is) r.0 r.1

pub returns : goal.returns
returns g c =
    let p = c.args.agreed.now.covered.program in
    let m = g.M.ByteMemory.memory c.args.memory.now in
    let typed : IsTyped p = rw c.covered.ensures.same at c.program.ensures.typed in
    let ls = c.layouts-layouts.result.now in
    let l = c.in-Some.ensures.lookup in
    let is_layout : slice_get (flat_layouts p) c.args.ty ≡ Some c.in-Some.layout.now = ap (λ xs. slice_get xs c.args.ty) (sym (c.layouts-layouts.ensures.same ∙ c.layouts-layouts.ensures.flat)) ∙ slice_get_read ls (length ls) c.args.ty c.in-Some.layout.now refl l.3.0 l.1 in
    let is_number = sym c.get-2.ensures.value ∙ ap option_copied c.in-Some-get.is in
    on_ok_weaker c.plan.result (planned p typed c.layouts-layouts.ensures.agree m c.requires.good c.args.ty c.args.words.now c.in-Some.layout.now is_layout c.leaf_number.result c.leaf_number.ensures c.in-Some-get.leaf.now is_number
    c.as_slice-types.result.now ls (c.as_slice-types.ensures ∙ ap (λ q. q.types) (c.program.ensures.same ∙ ap (λ k. k.program) c.covered.ensures.same)) (c.layouts-layouts.ensures.same ∙ c.layouts-layouts.ensures.flat)
    c.as_slice.result.now (rw (sym c.as_slice.ensures) at c.in_ok-loaded.ensures) c.args.todo.now.items c.plan.new.todo.items) c.plan.ensures

pub plan-requires : goal.plan-requires
plan-requires g c =
    let p = c.args.agreed.now.covered.program in
    let typed : IsTyped p = rw c.covered.ensures.same at c.program.ensures.typed in
    let types : c.as_slice-types.result.now ≡ p.types = c.as_slice-types.ensures ∙ ap (λ q. q.types) (c.program.ensures.same ∙ ap (λ k. k.program) c.covered.ensures.same) in
    record { few = subst HaveFewFields (sym types) (few_fields p.types typed.numbered.types) }
