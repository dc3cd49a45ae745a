use Rattle.std.proofs.Common.{◌≡◌, ◌⊎◌, List, refl, sym, subst}
use Rattle.rb_core.specs.declared.types.Ty.TheVariants.{Named}
use Rattle.rb_image_text.specs.declared.fault.ImageFault.TheVariants.{Memory}
use Rattle.rb_image.specs.Roots.{WordsFit, kept_from, widths_of}
use Rattle.rb_peek.specs.Peeking.{IsFaultOf}
use Rattle.rb_peek.proofs.CheckLemmas.{if_err}
use Rattle.rb_peek.proofs.PeekFaults.{some_root}
use Rattle.rb_peek.proofs.PeekLemmas.{path_fault, span_more, words_fault, words_found}
use Rattle.rb_layout.specs.declared.layout.Layout.{Layout}
use Rattle.rb_peek.proofs.WellLeaves.{AreWell, wells}
use Rattle.rb_peek.specs.Walks.{where_of}
use Rattle.rb_peek.proofs.peek.peek_data.Goals as goal

pub returns-in_err-words-clause-fault : goal.returns-in_err-words-clause-fault
returns-in_err-words-clause-fault g c =
    let types = c.args.agreed.now.covered.program.types in
    let layouts = c.args.agreed.now.layouts in
    let image = c.args.image.now in
    let p = c.args.agreed.now.covered.program in
    let flat = c.layouts.ensures.flat in
    let agree = c.layouts.ensures.agree in
    let well = subst AreWell (sym flat) (wells p c.tell_typed.ensures agree) in
    let some = some_root p c.tell_typed.ensures agree c.args.ty c.requires.declared image.root (subst (λ (ls : List Layout). WordsFit (widths_of ls (Named c.args.ty)) image.root) flat c.requires.fit) in
    if_err (λ fault. IsFaultOf types layouts image (Named c.args.ty) c.args.path.now fault ⊎ (fault ≡ Memory)) c.from_residual-in_err-words.result _
    c.from_residual-in_err-words.ensures.0 c.from_residual-in_err-words.ensures.1
    (words_fault types layouts image c.requires.placed well some c.args.ty c.args.path.now (where_of c.in_ok-walk.walk) c.in_ok-walk.ensures.walk _ c.in_err-words.ensures)

pub returns-clause-part : goal.returns-clause-part
returns-clause-part g c =
    let types = c.args.agreed.now.covered.program.types in
    let layouts = c.args.agreed.now.layouts in
    let image = c.args.image.now in
    words_found types layouts image c.args.ty c.args.path.now (where_of c.in_ok-walk.walk) c.in_ok-walk.ensures.walk c.in_ok-walk.ensures.sound
    (record { ty = c.in_ok-walk.walk.here.ty; words = c.in_ok-words.words }) refl c.in_ok-words.ensures

pub returns-in_err-walk-clause-fault : goal.returns-in_err-walk-clause-fault
returns-in_err-walk-clause-fault g c =
    let types = c.args.agreed.now.covered.program.types in
    let layouts = c.args.agreed.now.layouts in
    let image = c.args.image.now in
    if_err (λ fault. IsFaultOf types layouts image (Named c.args.ty) c.args.path.now fault ⊎ (fault ≡ Memory)) c.from_residual.result _ c.from_residual.ensures.0 c.from_residual.ensures.1
    (path_fault types layouts image c.args.ty c.args.path.now _ c.in_err-walk.ensures.fault)

pub returns-in_err-walk-clause-most : goal.returns-in_err-walk-clause-most
returns-in_err-walk-clause-most g c =
    let image = c.args.image.now in
    span_more c.follow_path.new.steps.taken c.args.steps.now.taken _ _ c.follow_path.ensures.most (c.tell_short.ensures image.blocks c.args.ty (kept_from 0 image.root) c.args.path.now)

pub returns-in_err-words-clause-most : goal.returns-in_err-words-clause-most
returns-in_err-words-clause-most g c =
    let image = c.args.image.now in
    span_more c.follow_path.new.steps.taken c.args.steps.now.taken _ _ c.follow_path.ensures.most (c.tell_short.ensures image.blocks c.args.ty (kept_from 0 image.root) c.args.path.now)

pub returns-clause-most : goal.returns-clause-most
returns-clause-most g c =
    let image = c.args.image.now in
    span_more c.follow_path.new.steps.taken c.args.steps.now.taken _ _ c.follow_path.ensures.most (c.tell_short.ensures image.blocks c.args.ty (kept_from 0 image.root) c.args.path.now)
