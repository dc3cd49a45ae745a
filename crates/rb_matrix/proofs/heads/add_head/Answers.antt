use Rattle.std.proofs.Common.{List, ◌||◌, ◌++◌, [], ◌∷◌, ◌∙◌, sym, ap}
use Rattle.std.specs.Prelude.{Option, if◌then◌else◌}
use Rattle.rb_matrix.specs.declared.matrix.Head.{Head}
use Rattle.rb_matrix.specs.Heads.{layer_begins, any_begins, option_begins, sample}
use Rattle.rb_matrix.specs.Known.{with_head}
use Rattle.rb_matrix.proofs.HeadLemmas.{any_begins-append, any_begins-known}
use Rattle.rb_matrix.proofs.heads.add_head.Goals as goal

pub returns-then-contains-clause-heads : goal.returns-then-contains-clause-heads
returns-then-contains-clause-heads c = λ l.
    let known = sym (c.requires (sample c.in-Some.head)) ∙ sym c.contains.ensures ∙ c.if-contains.true in
    sym (any_begins-known c.args.heads.now.items c.in-Some.head known l)
    ∙ ap (λ (o : Option Head). any_begins c.args.heads.now.items l || option_begins o l) (sym c.in-Some.is)

pub returns-clause-heads : goal.returns-clause-heads
returns-clause-heads c = λ l.
    ap (λ hs. any_begins hs l) (c.in_ok-push.ensures.items ∙ ap (λ (hs : List Head). hs ++ c.in-Some.head ∷ []) c.in_ok-reserve.ensures.items) ∙ any_begins-append c.args.heads.now.items c.in-Some.head l
    ∙ ap (λ (o : Option Head). any_begins c.args.heads.now.items l || option_begins o l) (sym c.in-Some.is)

pub returns-clause-known : goal.returns-clause-known
returns-clause-known c = λ l.
    c.in_ok-insert.ensures.ok l ∙ ap (λ b. b || layer_begins c.in-Some.head l) (c.requires l)
    ∙ sym (any_begins-append c.args.heads.now.items c.in-Some.head l)
    ∙ ap (λ hs. any_begins hs l) (sym (c.in_ok-push.ensures.items ∙ ap (λ (hs : List Head). hs ++ c.in-Some.head ∷ []) c.in_ok-reserve.ensures.items))

pub returns-clause-order : goal.returns-clause-order
returns-clause-order c =
    let known = sym (c.requires (sample c.in-Some.head)) ∙ sym c.contains.ensures ∙ c.if-contains.false in
    (c.in_ok-push.ensures.items ∙ ap (λ (hs : List Head). hs ++ c.in-Some.head ∷ []) c.in_ok-reserve.ensures.items) ∙ sym (ap (λ b. if b then c.args.heads.now.items else c.args.heads.now.items ++ c.in-Some.head ∷ []) known)
    ∙ ap (with_head c.args.heads.now.items) (sym c.in-Some.is)

pub returns-then-contains-clause-order : goal.returns-then-contains-clause-order
returns-then-contains-clause-order c =
    let known = sym (c.requires (sample c.in-Some.head)) ∙ sym c.contains.ensures ∙ c.if-contains.true in
    sym (ap (λ b. if b then c.args.heads.now.items else c.args.heads.now.items ++ c.in-Some.head ∷ []) known)
    ∙ ap (with_head c.args.heads.now.items) (sym c.in-Some.is)
