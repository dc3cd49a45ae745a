use Rattle.std.proofs.Common.{Some, sym, ap, ◌∙◌}
use Rattle.std.specs.Option.{option_copied}
use Rattle.rb_fetch.specs.inner.Fields.{leaf_at}
use Rattle.rb_fetch.proofs.Fields.{agreed_leaf, no_type, reads_int, reads_data}
use Rattle.rb_fetch.proofs.field.field_reads.Goals as goal

pub int_read-requires : goal.int_read-requires
int_read-requires c =
    let typed = rw c.covered.ensures.same at c.program-program.ensures.typed in
    let leaf = c.in-Some.leaf.now in
    let at = ap (λ ls. leaf_at ls c.args.ty c.args.leaf) (sym c.layouts.ensures.same) ∙ sym c.leaf_at.ensures ∙ ap option_copied c.in-Some.is in
    record { leaf = agreed_leaf c.args.agreed.now typed c.layouts.ensures.flat c.layouts.ensures.agree c.args.ty c.args.leaf c.args.path.now c.args.words.now leaf at }

pub word_reads-requires : goal.word_reads-requires
word_reads-requires c =
    let typed = rw c.covered.ensures.same at c.program-program.ensures.typed in
    let leaf = c.in-Some.leaf.now in
    let at = ap (λ ls. leaf_at ls c.args.ty c.args.leaf) (sym c.layouts.ensures.same) ∙ sym c.leaf_at.ensures ∙ ap option_copied c.in-Some.is in
    record { leaf = agreed_leaf c.args.agreed.now typed c.layouts.ensures.flat c.layouts.ensures.agree c.args.ty c.args.leaf c.args.path.now c.args.words.now leaf at }

pub returns-in-None : goal.returns-in-None
returns-in-None c =
    let typed = rw c.covered.ensures.same at c.program-program.ensures.typed in
    let leaf = c.in-Some.leaf.now in
    let at = ap (λ ls. leaf_at ls c.args.ty c.args.leaf) (sym c.layouts.ensures.same) ∙ sym c.leaf_at.ensures ∙ ap option_copied c.in-Some.is in
    let found = rw (c.as_slice.ensures, c.program-program.ensures.same, c.covered.ensures.same) at c.type_at.ensures in
    rw c.new-reads.ensures (record { reads = no_type c.args.agreed.now typed c.layouts.ensures.flat c.layouts.ensures.agree c.args.ty c.args.leaf c.args.path.now c.args.words.now leaf at (sym found ∙ c.in-None.is) })

pub returns-in_ok-push-in-Some-Int : goal.returns-in_ok-push-in-Some-Int
returns-in_ok-push-in-Some-Int c =
    let typed = rw c.covered.ensures.same at c.program-program.ensures.typed in
    let leaf = c.in-Some.leaf.now in
    let at = ap (λ ls. leaf_at ls c.args.ty c.args.leaf) (sym c.layouts.ensures.same) ∙ sym c.leaf_at.ensures ∙ ap option_copied c.in-Some.is in
    let found = rw (c.as_slice.ensures, c.program-program.ensures.same, c.covered.ensures.same) at c.type_at.ensures in
    rw (c.in_ok-push-in-Some-Int.ensures.ok, c.new-reads.ensures) (record {
      reads = reads_int c.args.agreed.now typed c.layouts.ensures.flat c.layouts.ensures.agree c.args.ty c.args.leaf c.args.path.now c.args.words.now leaf at c.in-Some-Int.width (sym found ∙ c.in-Some-Int.is ∙ ap Some c.in-Some-Int.field-0-is) c.in_ok-read-in-Some-Int.read c.in_ok-read-in-Some-Int.ensures;
    })

pub returns-in_ok-reads-in-Some-Named : goal.returns-in_ok-reads-in-Some-Named
returns-in_ok-reads-in-Some-Named c =
    let typed = rw c.covered.ensures.same at c.program-program.ensures.typed in
    let leaf = c.in-Some.leaf.now in
    let at = ap (λ ls. leaf_at ls c.args.ty c.args.leaf) (sym c.layouts.ensures.same) ∙ sym c.leaf_at.ensures ∙ ap option_copied c.in-Some.is in
    let found = rw (c.as_slice.ensures, c.program-program.ensures.same, c.covered.ensures.same) at c.type_at.ensures in
    record {
      reads = reads_data c.args.agreed.now typed c.layouts.ensures.flat c.layouts.ensures.agree c.args.ty c.args.leaf c.args.path.now c.args.words.now leaf at c.in-Some-Named.field (sym found ∙ c.in-Some-Named.is ∙ ap Some c.in-Some-Named.field-0-is) c.in_ok-reads-in-Some-Named.reads
          (rw (c.word_count-count.ensures, c.layouts-in-Some-Named.ensures.same) at c.in_ok-reads-in-Some-Named.ensures);
    }
