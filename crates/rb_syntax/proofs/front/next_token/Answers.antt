use Rattle.std.proofs.Common.{◌≡◌, ◌<◌, ◌≤◌, length, drop, sym, ◌∙◌, arith, length-drop}
use Rattle.rb_syntax.specs.declared.piece.Piece.TheVariants as piece
use Rattle.rb_syntax.specs.Pieces.{piece_at}
use Rattle.rb_syntax.proofs.LexLemmas.{rest_after}
use Rattle.rb_syntax.proofs.FrontLemmas.{at-gap, at-token, at-bad, at-wide, at-end}
use Rattle.rb_syntax.proofs.front.next_token.Goals as goal

pub loop-at-preserved : goal.loop-at-preserved
loop-at-preserved c =
    let text = c.args.text.now in
    let at = c.loop-at.at in
    let len = c.in-Gap.len in
    let p : piece_at (drop at text) ≡ piece.Gap len = rw (rest_after text at) at (sym c.in_ok-len.ensures.piece ∙ c.in-Gap.is) in
    let b : (0 < len) × (len ≤ length (drop at text)) = rw (c.in-Gap.is, rest_after text at) at (c.in_ok-len.ensures.within (rw (rest_after text at) (omega (arith, c.loop-at-test.true, length-drop at text)))) in
    record {
      from = omega (arith, c.loop-at.invariant.from);
      within = omega (arith, b.1, length-drop at text, c.loop-at-test.true);
      same = c.loop-at.invariant.same ∙ at-gap text at c.loop-at-test.true len p;
    }

pub returns-in-Token : goal.returns-in-Token
returns-in-Token c =
    let text = c.args.text.now in
    let at = c.loop-at.at in
    let len = c.in-Token.len in
    let p : piece_at (drop at text) ≡ piece.Token c.in-Token.token len = rw (rest_after text at) at (sym c.in_ok-len.ensures.piece ∙ c.in-Token.is) in
    let b : (0 < len) × (len ≤ length (drop at text)) = rw (c.in-Token.is, rest_after text at) at (c.in_ok-len.ensures.within (rw (rest_after text at) (omega (arith, c.loop-at-test.true, length-drop at text)))) in
    (c.loop-at.invariant.same ∙ at-token text at c.loop-at-test.true c.in-Token.token len p, omega (arith, b.0, c.loop-at.invariant.from), omega (arith, b.1, length-drop at text, c.loop-at-test.true))

pub returns-in-Bad : goal.returns-in-Bad
returns-in-Bad c =
    let text = c.args.text.now in
    let at = c.loop-at.at in
    let p : piece_at (drop at text) ≡ piece.Bad c.in-Bad.offset = rw (rest_after text at) at (sym c.in_ok-len.ensures.piece ∙ c.in-Bad.is) in
    c.loop-at.invariant.same ∙ at-bad text at c.loop-at-test.true c.in-Bad.offset p

pub returns-in-Wide : goal.returns-in-Wide
returns-in-Wide c =
    let text = c.args.text.now in
    let at = c.loop-at.at in
    let p : piece_at (drop at text) ≡ piece.Wide = rw (rest_after text at) at (sym c.in_ok-len.ensures.piece ∙ c.in-Wide.is) in
    c.loop-at.invariant.same ∙ at-wide text at c.loop-at-test.true p

pub returns : goal.returns
returns c = c.loop-at.invariant.same ∙ at-end c.args.text.now c.loop-at.at (omega (arith, c.loop-at-test.false))
