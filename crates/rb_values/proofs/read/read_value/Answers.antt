use Rattle.std.proofs.Common.{◌≡◌, ◌+◌, ◌≤◌, [], ◌∷◌, ◌++◌, Some, None, sym, ◌∙◌, ap, arith}
use Rattle.rb_syntax.specs.declared.front.Next.TheVariants as next
use Rattle.rb_syntax.specs.Fronts.{front_at, IsNext}
use Rattle.rb_values.specs.declared.outline.Outline.{Outline}
use Rattle.rb_values.specs.declared.sign.Sign.{Sign}
use Rattle.rb_values.specs.Terms.{sign_of}
use Rattle.rb_values.specs.inner.States.{expecting, step, outline_of, outline_step}
use Rattle.rb_values.proofs.SpellingLemmas.{outline_same, depth_within, grows}
use Rattle.rb_values.proofs.FittingLemmas.{read-of_type, read-within}
use Rattle.rb_values.proofs.ReadLemmas.{no-step, some-step, at-first, at-next, stops-token, stops-fault, read-whole}
use Rattle.rb_values.proofs.read.read_value.Goals as goal

pub loop-typing-init : goal.loop-typing-init
loop-typing-init c = record {
  seen = [];
  state = expecting [];
  within = omega arith;
  so_far = at-first c.args.text.now;
  outline = c.new-outline.ensures;
  nodes = rw c.new-outline.ensures (omega arith);
  kept = c.new.ensures c.args.types.now c.args.ty;
}

pub returns-in-Fault-clause-read : goal.returns-in-Fault-clause-read
returns-in-Fault-clause-read c =
    let i = c.loop-typing.invariant in
    stops-fault c.args.text.now c.loop-typing.at i.seen i.state i.so_far c.in-Fault.place (rw c.in-Fault.is at c.in_ok-place.ensures)

pub returns-in-End-clause-read : goal.returns-in-End-clause-read
returns-in-End-clause-read c =
    let i = c.loop-typing.invariant in
    read-whole c.args.text.now c.loop-typing.at i.seen i.state i.so_far c.args.types.now c.args.ty c.args.limit c.finish.result
    (rw c.in-End.is at c.in_ok-place.ensures) (c.finish.ensures c.args.ty i.state i.outline i.kept)

pub returns-in-End-clause-of_type : goal.returns-in-End-clause-of_type
returns-in-End-clause-of_type c = read-of_type c.args.types.now c.args.ty c.args.limit c.args.text.now c.finish.result (returns-in-End-clause-read c)

pub returns-in-End-clause-within : goal.returns-in-End-clause-within
returns-in-End-clause-within c = read-within c.args.types.now c.args.ty c.args.limit c.args.text.now c.finish.result (returns-in-End-clause-read c)

pub step-requires-clause-depth : goal.step-requires-clause-depth
step-requires-clause-depth c = let i = c.loop-typing.invariant in rw i.outline (depth_within i.state)

pub returns-in-None-clause-read : goal.returns-in-None-clause-read
returns-in-None-clause-read c =
    let i = c.loop-typing.invariant in
    let t : IsNext c.args.text.now c.loop-typing.at (next.Token c.in-Token.placed c.in-Token.end) = rw c.in-Token.is at c.in_ok-place.ensures in
    let q : outline_step (outline_of i.state) (sign_of c.in-Token.placed) ≡ None = rw (i.outline, c.sign_of-sign.ensures) at (sym c.step.ensures ∙ c.in-None.is) in
    stops-token c.args.text.now c.loop-typing.at i.seen i.state i.so_far (front_at c.args.text.now c.in-Token.end) c.in-Token.placed t.0
    (no-step (step i.state (sign_of c.in-Token.placed)) (sym (outline_same i.state (sign_of c.in-Token.placed)) ∙ q))

pub loop-typing-preserved : goal.loop-typing-preserved
loop-typing-preserved c =
    let i = c.loop-typing.invariant in
    let t : IsNext c.args.text.now c.loop-typing.at (next.Token c.in-Token.placed c.in-Token.end) = rw c.in-Token.is at c.in_ok-place.ensures in
    let a : outline_step c.loop-typing.outline c.sign_of-sign.result ≡ Some c.in-Some.next = sym c.step.ensures ∙ c.in-Some.is in
    let q : outline_step (outline_of i.state) (sign_of c.in-Token.placed) ≡ Some c.in-Some.next =
    ap (λ (o : Outline). outline_step o (sign_of c.in-Token.placed)) (sym i.outline)
    ∙ ap (λ (s : Sign). outline_step c.loop-typing.outline s) (sym c.sign_of-sign.ensures) ∙ a in
    let r = some-step (step i.state (sign_of c.in-Token.placed)) c.in-Some.next (sym (outline_same i.state (sign_of c.in-Token.placed)) ∙ q) in
    let m = ap (λ (o : Outline). o.nodes) r.2 in
    let k = ap (λ (o : Outline). o.nodes) i.outline in
    let g : c.in-Some.next.nodes ≤ c.loop-typing.outline.nodes + 1 = omega (arith, m, k, (grows i.state (sign_of c.in-Token.placed) r.0 r.1).1) in
    record {
      seen = i.seen ++ c.in-Token.placed ∷ [];
      state = r.0;
      within = t.2;
      so_far = at-next c.args.text.now c.loop-typing.at i.seen i.state i.so_far c.in-Token.end c.in-Token.placed r.0 t.0 r.1;
      outline = r.2;
      nodes = omega (arith, g, i.nodes, t.1);
      kept = c.in-Ok.ensures i.state r.0 (ap (λ (s : Sign). step i.state s) c.sign_of-sign.ensures ∙ r.1) m i.kept;
    }
