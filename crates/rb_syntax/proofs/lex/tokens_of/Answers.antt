use Rattle.std.proofs.Common.{◌≡◌, ◌-◌, ◌<◌, ◌≤◌, length, drop, sym, ◌∙◌, ap, arith, length-drop}
use Rattle.rb_syntax.specs.declared.piece.Piece.TheVariants as piece
use Rattle.rb_syntax.specs.Lexing.{lexing_from}
use Rattle.rb_syntax.specs.Pieces.{piece_at}
use Rattle.rb_syntax.proofs.LexLemmas.{rest_after, in_front-nil, at_end, turn-gap, turn-token, turn-bad, turn-wide}
use Rattle.rb_syntax.proofs.lex.tokens_of.Goals as goal
use Rattle.rb_syntax.proofs.lex.tokens_of.Goals.{in-Gap, in-Token+in_ok-push-in-Token}

pub loop-turn-init : goal.loop-turn-init
loop-turn-init c = record { place = omega arith; turns = omega arith; same = rw c.new-tokens.ensures.items (in_front-nil _ ∙ ap (λ n. lexing_from n 0 c.args.bytes.now) (let z : length c.args.bytes.now - 0 ≡ length c.args.bytes.now = omega arith in z)) }

pub returns-then-left-eq0 : goal.returns-then-left-eq0
returns-then-left-eq0 c = at_end _ _ _ _ _ c.if-left-eq0.true c.loop-turn.invariant.same

pub returns-in-Bad : goal.returns-in-Bad
returns-in-Bad c =
    let p : piece_at c.loop-turn.left.now ≡ piece.Bad c.in-Bad.offset = sym c.in_ok-len.ensures.piece ∙ c.in-Bad.is in
    turn-bad _ _ _ _ _ _ c.loop-turn-test.true c.if-left-eq0.false c.loop-turn.invariant.same _ p

pub returns-in-Wide : goal.returns-in-Wide
returns-in-Wide c =
    let p : piece_at c.loop-turn.left.now ≡ piece.Wide = sym c.in_ok-len.ensures.piece ∙ c.in-Wide.is in
    turn-wide _ _ _ _ _ _ c.loop-turn-test.true c.if-left-eq0.false c.loop-turn.invariant.same p

pub loop-turn-preserved : goal.loop-turn-preserved
loop-turn-preserved c = elim c.match-branch-2.branch [
  | in-Gap w ↦
      let len = w.in-Gap.len in
      let p : piece_at c.loop-turn.left.now ≡ piece.Gap len = sym c.in_ok-len.ensures.piece ∙ w.in-Gap.is in
      let b : (0 < len) × (len ≤ length c.loop-turn.left.now) = rw w.in-Gap.is at (c.in_ok-len.ensures.within (omega arith)) in
      let l : c.match-branch-2.left.now ≡ drop len c.loop-turn.left.now = ap (λ r. r.now) w.left-is ∙ rest_after c.loop-turn.left.now len in
      let n : length c.match-branch-2.left.now ≡ length c.loop-turn.left.now - len = ap length l ∙ length-drop len c.loop-turn.left.now in
      record {
        place = omega (arith, w.at-is, b.0, b.1, c.loop-turn.invariant.place);
        turns = omega (arith, b.0, b.1, c.loop-turn.invariant.turns);
        same = rw (w.tokens-is, w.at-is, l) (turn-gap _ _ _ _ _ _ c.loop-turn-test.true c.if-left-eq0.false c.loop-turn.invariant.same len p);
      }
  | in-Token+in_ok-push-in-Token w ↦
      let len = w.in-Token.len in
      let p : piece_at c.loop-turn.left.now ≡ piece.Token w.in-Token.token len = sym c.in_ok-len.ensures.piece ∙ w.in-Token.is in
      let b : (0 < len) × (len ≤ length c.loop-turn.left.now) = rw w.in-Token.is at (c.in_ok-len.ensures.within (omega arith)) in
      let l : c.match-branch-2.left.now ≡ drop len c.loop-turn.left.now = ap (λ r. r.now) w.left-is ∙ rest_after c.loop-turn.left.now len in
      let n : length c.match-branch-2.left.now ≡ length c.loop-turn.left.now - len = ap length l ∙ length-drop len c.loop-turn.left.now in
      record {
        place = omega (arith, w.at-is, b.0, b.1, c.loop-turn.invariant.place);
        turns = omega (arith, b.0, b.1, c.loop-turn.invariant.turns);
        same = rw (w.tokens-is, w.at-is, l, w.in_ok-push-in-Token.ensures.items)
            (turn-token _ _ _ _ _ _ c.loop-turn-test.true c.if-left-eq0.false c.loop-turn.invariant.same w.in-Token.token len p);
      }
]

pub returns : goal.returns
returns c = at_end _ _ _ _ _ (omega (arith, c.loop-turn.invariant.turns)) c.loop-turn.invariant.same
