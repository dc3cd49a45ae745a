-- Patterns and provenances.
use Rattle.std.proofs.Common.{◌≡◌, ℕ, zero, suc, ◌+◌, List, [], ◌∷◌, map, true, false, nat_lt, None, refl, ◌∙◌, ap, subst, arith}
use Rattle.std.proofs.lemmas.Grind.{common_steps}
use Rattle.rb_syntax.specs.declared.token.Symbol.TheVariants as symbol
use Rattle.rb_syntax.specs.declared.token.Token.{Token}
use Rattle.rb_syntax.specs.declared.token.Token.TheVariants as tok
use Rattle.rb_syntax.specs.declared.tree.NameTree.{NameTree}
use Rattle.rb_syntax.specs.declared.tree.PatTree.{PatTree}
use Rattle.rb_syntax.specs.declared.tree.PatTree as P
use Rattle.rb_syntax.specs.Written.{Written, token, number, node, flaw, tokens_in}
use Rattle.rb_syntax.specs.Spelling.{Deep, at_level, fields_written, pat_written, below_written, prov_written}
use Rattle.rb_syntax.proofs.SpellingLemmas.{pat-Wild, pat-Var, pat-Num, pat-Con}
use Rattle.rb_syntax.proofs.LayoutSpelling.{below-Wild, below-Var, below-Num, below-Con}
use Rattle.rb_syntax.proofs.PatternInduction.{induction}
use Rattle.rb_read.specs.inner.Combining.{Reader, into, nothing, in_parens, beyond}
use Rattle.rb_read.proofs.Open.{maybe, fields, pat, below, prov, begins, as_pattern}
use Rattle.rb_read.specs.inner.Reading.{name_tree, begins_pattern, pattern_from, pattern_one, pattern, begins_below, below_from, below_one, begins_provenance, provenance_from, provenance_one, provenance}
use Rattle.rb_read.specs.inner.Reading as reading
use Rattle.rb_read.proofs.Forms.{IsRight, Again, Clear, IsForm}
use Rattle.rb_read.proofs.FormLaws.{nothing-form}
use Rattle.rb_read.proofs.NodeForms.{AtToken, IsPart, part-form, none-at, node-at, node-again, IsDeep, IsDeepBegun, zero-form}
use Rattle.rb_read.proofs.ListForms.{in_parens-form}
use Rattle.rb_read.proofs.TypeForms.{opens_paren, all-clear}

pub at_level-map : {A : Type 0} (w : A → Deep) (l : ℕ) (xs : List A) → at_level l (map w xs) ≡ map (λ x. w x l) xs
at_level-map w l [] = refl
at_level-map w l (x ∷ xs) = ap (λ ws. w x l ∷ ws) (at_level-map w l xs)

-- a level is within the limit, or beyond it
pub within : (limit l n : ℕ) → l + suc n ≡ suc limit → nat_lt limit l ≡ false
within limit l n e = grind (arith, common_steps, e)

pub not-within : (limit l : ℕ) → l + 0 ≡ suc limit → nat_lt limit l ≡ true
not-within limit l e = grind (arith, common_steps, e)

-- a pattern form by form
pub by_form : (Q : PatTree → Type 0) → ((at : ℕ) → Q (P.Wild at)) → ((at : ℕ) (x : NameTree) → Q (P.Var at x)) → ((at n : ℕ) → Q (P.Num at n))
    → ((at : ℕ) (x : NameTree) (ps : List PatTree) → Q (P.Con at x ps)) → (p : PatTree) → Q p
by_form Q wild var num con = induction Q (record { wild = wild; var = var; num = num; con = λ at x ps h. con at x ps })

con-written : (at : ℕ) (x : NameTree) (ps : List PatTree) (l : ℕ) (rest : List Written) → pat_written (P.Con at x ps) l rest
    ≡ node l ∷ number at ∷ number x.at ∷ token (tok.Upper x.text) ∷ fields_written (map (λ p. pat_written p (suc l)) ps) rest
con-written at x ps l rest = pat-Con at x ps l rest
    ∙ ap (λ ws. node l ∷ number at ∷ number x.at ∷ token (tok.Upper x.text) ∷ fields_written ws rest) (at_level-map pat_written (suc l) ps)

pattern-zero : (total limit l : ℕ) → l + 0 ≡ suc limit → IsPart total limit opens_paren (pat l) (λ p. pat_written p l) (pattern 0 total)
unfolding pattern begins as_pattern
pattern-zero total limit l e = zero-form begins_pattern deeper none begun where
  deeper : (t : Token) → begins_pattern t ≡ true → IsDeep limit (begins (pat l) t)
  deeper (tok.Upper x) h = not-within limit l e
  deeper (tok.Lower x) h = not-within limit l e
  deeper (tok.Num x) h = not-within limit l e
  deeper (tok.Symbol symbol.Underscore) h = not-within limit l e
  deeper _ h = cc

  none : (t : Token) → begins_pattern t ≡ false → begins (pat l) t ≡ None
  none (tok.Upper x) h = cc
  none (tok.Lower x) h = cc
  none (tok.Num x) h = cc
  none (tok.Symbol symbol.Underscore) h = cc
  none _ h = refl

  begun : (p : PatTree) (rest : List Written) → IsRight total (pat_written p l rest) → IsDeepBegun limit begins_pattern (pat_written p l rest)
  begun p rest i = by_form (λ q. IsDeepBegun limit begins_pattern (pat_written q l rest))
      (λ at. record { marks = node l ∷ number at ∷ []; first = tok.Symbol symbol.Underscore; others = rest; whole = pat-Wild at l rest; are_marks = tt; is_deep = rw (not-within limit l e) refl; passes = refl })
      (λ at x. record { marks = node l ∷ number at ∷ number x.at ∷ []; first = tok.Lower x.text; others = rest; whole = pat-Var at x l rest; are_marks = tt; is_deep = rw (not-within limit l e) refl; passes = refl })
      (λ at n. record { marks = node l ∷ number at ∷ []; first = tok.Num n; others = rest; whole = pat-Num at n l rest; are_marks = tt; is_deep = rw (not-within limit l e) refl; passes = refl })
      (λ at x ps. record { marks = node l ∷ number at ∷ number x.at ∷ []; first = tok.Upper x.text; others = _; whole = con-written at x ps l rest; are_marks = tt; is_deep = rw (not-within limit l e) refl; passes = refl })
      p

-- a pattern above a reader of patterns
module _ (total limit l : ℕ) (small : nat_lt limit l ≡ false) {inner : Reader PatTree} (below-it : IsPart total limit opens_paren (pat (suc l)) (λ p. pat_written p (suc l)) inner) where
  subpatterns : IsForm total limit opens_paren (maybe (fields (pat (suc l))) ∷ []) (λ ps rest. fields_written (map (λ p. pat_written p (suc l)) ps) rest) (in_parens inner)
  subpatterns = in_parens-form below-it refl refl

  pattern-on : (t : Token) → AtToken total limit (pat l) (λ p. pat_written p l) (pattern_one inner total) t
  unfolding pattern_one pattern_from begins as_pattern into nothing
  pattern-on (tok.Upper x) = node-at subpatterns l refl small (λ at ps. P.Con at (name_tree at x) ps) (λ ts. refl) (λ at. node l ∷ number at ∷ number at ∷ [])
      (λ at. tt) (λ at. (refl, (refl, tt))) (λ at. rw small refl) (λ at ps rest. con-written at (name_tree at x) ps l rest)
  pattern-on (tok.Lower x) = node-at (nothing-form total limit) l refl small (λ at y. P.Var at (name_tree at x)) (λ ts. refl) (λ at. node l ∷ number at ∷ number at ∷ [])
      (λ at. tt) (λ at. (refl, (refl, tt))) (λ at. rw small refl) (λ at y rest. pat-Var at (name_tree at x) l rest)
  pattern-on (tok.Num n) = node-at (nothing-form total limit) l refl small (λ at y. P.Num at n) (λ ts. refl) (λ at. node l ∷ number at ∷ [])
      (λ at. tt) (λ at. (refl, tt)) (λ at. rw small refl) (λ at y rest. pat-Num at n l rest)
  pattern-on (tok.Symbol symbol.Underscore) = node-at (nothing-form total limit) l refl small (λ at y. P.Wild at) (λ ts. refl) (λ at. node l ∷ number at ∷ [])
      (λ at. tt) (λ at. (refl, tt)) (λ at. rw small refl) (λ at y rest. pat-Wild at l rest)
  pattern-on _ = none-at refl (λ ts. refl)

  pattern-again : (rest : List Written) → Clear opens_paren (tokens_in rest) → (p : PatTree) → IsRight total (pat_written p l rest)
      → Again total limit (pattern_one inner total) p (pat_written p l rest) rest
  unfolding pattern_one pattern_from into nothing
  pattern-again rest c = by_form (λ p. IsRight total (pat_written p l rest) → Again total limit (pattern_one inner total) p (pat_written p l rest) rest)
      (λ at i. node-again (nothing-form total limit) (tok.Symbol symbol.Underscore) (λ at y. P.Wild at) (λ ts. refl) (node l ∷ number at ∷ []) tt (rw small refl) _ tt rest _
      (pat-Wild at l rest) (λ m h. rw h.0 refl) i clear)
      (λ at x i. node-again (nothing-form total limit) (tok.Lower x.text) (λ at y. P.Var at (name_tree at x.text)) (λ ts. refl) (node l ∷ number at ∷ number x.at ∷ []) tt (rw small refl) _ tt rest _
      (pat-Var at x l rest) (λ m h. rw (h.0, ← h.1.0) refl) i clear)
      (λ at k i. node-again (nothing-form total limit) (tok.Num k) (λ at y. P.Num at k) (λ ts. refl) (node l ∷ number at ∷ []) tt (rw small refl) _ tt rest _
      (pat-Num at k l rest) (λ m h. rw h.0 refl) i clear)
      (λ at x ps i. node-again subpatterns (tok.Upper x.text) (λ at ps. P.Con at (name_tree at x.text) ps) (λ ts. refl) (node l ∷ number at ∷ number x.at ∷ []) tt (rw small refl) _ ps rest _
      (con-written at x ps l rest) (λ m h. rw (h.0, ← h.1.0) refl) i c) where
        clear : Clear (λ _. false) (tokens_in rest)
        clear = all-clear (tokens_in rest)

  pattern-above : IsPart total limit opens_paren (pat l) (λ p. pat_written p l) (pattern_one inner total)
  unfolding pattern_one
  pattern-above = part-form refl pattern-on (λ p rest i c. pattern-again rest c p i)

pub pattern-part : (total limit n l : ℕ) → l + n ≡ suc limit → IsPart total limit opens_paren (pat l) (λ p. pat_written p l) (pattern n total)
unfolding pattern
pattern-part total limit zero l e = pattern-zero total limit l e
pattern-part total limit (suc n) l e = pattern-above total limit l (within limit l n e) (pattern-part total limit n (suc l) (omega (arith, e)))

-- Provenances and what stands below their constructors.

pub below-con-written : (at : ℕ) (x : NameTree) (ps : List PatTree) (l : ℕ) (rest : List Written) → below_written (P.Con at x ps) l rest
    ≡ node l ∷ number at ∷ number x.at ∷ token (tok.Upper x.text) ∷ fields_written (map (λ p. below_written p (suc l)) ps) rest
below-con-written at x ps l rest = below-Con at x ps l rest
    ∙ ap (λ ws. node l ∷ number at ∷ number x.at ∷ token (tok.Upper x.text) ∷ fields_written ws rest) (at_level-map below_written (suc l) ps)

-- a flaw is not right
flawed : {Q : Type 0} (total : ℕ) (ws rest : List Written) → ws ≡ flaw ∷ rest → IsRight total ws → Q
flawed total ws rest e i = let j : IsRight total (flaw ∷ rest) = subst (λ us. IsRight total us) e i in absurd j.0

below-zero : (total limit l : ℕ) → l + 0 ≡ suc limit → IsPart total limit opens_paren (below l) (λ p. below_written p l) (λ ts. beyond begins_below ts)
unfolding begins
below-zero total limit l e = zero-form begins_below deeper none begun where
  deeper : (t : Token) → begins_below t ≡ true → IsDeep limit (begins (below l) t)
  deeper (tok.Upper x) h = not-within limit l e
  deeper (tok.Symbol symbol.Underscore) h = not-within limit l e
  deeper _ h = cc

  none : (t : Token) → begins_below t ≡ false → begins (below l) t ≡ None
  none (tok.Upper x) h = cc
  none (tok.Symbol symbol.Underscore) h = cc
  none _ h = refl

  begun : (p : PatTree) (rest : List Written) → IsRight total (below_written p l rest) → IsDeepBegun limit begins_below (below_written p l rest)
  begun p rest = by_form (λ q. IsRight total (below_written q l rest) → IsDeepBegun limit begins_below (below_written q l rest))
      (λ at i. record { marks = node l ∷ number at ∷ []; first = tok.Symbol symbol.Underscore; others = rest; whole = below-Wild at l rest; are_marks = tt; is_deep = rw (not-within limit l e) refl; passes = refl })
      (λ at x i. flawed total _ rest (below-Var at x l rest) i)
      (λ at n i. flawed total _ rest (below-Num at n l rest) i)
      (λ at x ps i. record { marks = node l ∷ number at ∷ number x.at ∷ []; first = tok.Upper x.text; others = _; whole = below-con-written at x ps l rest; are_marks = tt; is_deep = rw (not-within limit l e) refl; passes = refl })
      p

module _ (total limit l : ℕ) (small : nat_lt limit l ≡ false) {inner : Reader PatTree} (below-it : IsPart total limit opens_paren (below (suc l)) (λ p. below_written p (suc l)) inner) where
  subprovenances : IsForm total limit opens_paren (maybe (fields (below (suc l))) ∷ []) (λ ps rest. fields_written (map (λ p. below_written p (suc l)) ps) rest) (in_parens inner)
  subprovenances = in_parens-form below-it refl refl

  below-on : (t : Token) → AtToken total limit (below l) (λ p. below_written p l) (below_one inner total) t
  unfolding below_one below_from begins into nothing
  below-on (tok.Upper x) = node-at subprovenances l refl small (λ at ps. P.Con at (name_tree at x) ps) (λ ts. refl) (λ at. node l ∷ number at ∷ number at ∷ [])
      (λ at. tt) (λ at. (refl, (refl, tt))) (λ at. rw small refl) (λ at ps rest. below-con-written at (name_tree at x) ps l rest)
  below-on (tok.Symbol symbol.Underscore) = node-at (nothing-form total limit) l refl small (λ at y. P.Wild at) (λ ts. refl) (λ at. node l ∷ number at ∷ [])
      (λ at. tt) (λ at. (refl, tt)) (λ at. rw small refl) (λ at y rest. below-Wild at l rest)
  below-on _ = none-at refl (λ ts. refl)

  below-again : (rest : List Written) → Clear opens_paren (tokens_in rest) → (p : PatTree) → IsRight total (below_written p l rest)
      → Again total limit (below_one inner total) p (below_written p l rest) rest
  unfolding below_one below_from into nothing
  below-again rest c = by_form (λ p. IsRight total (below_written p l rest) → Again total limit (below_one inner total) p (below_written p l rest) rest)
      (λ at i. node-again (nothing-form total limit) (tok.Symbol symbol.Underscore) (λ at y. P.Wild at) (λ ts. refl) (node l ∷ number at ∷ []) tt (rw small refl) _ tt rest _
      (below-Wild at l rest) (λ m h. rw h.0 refl) i (all-clear (tokens_in rest)))
      (λ at x i. flawed total _ rest (below-Var at x l rest) i)
      (λ at n i. flawed total _ rest (below-Num at n l rest) i)
      (λ at x ps i. node-again subprovenances (tok.Upper x.text) (λ at ps. P.Con at (name_tree at x.text) ps) (λ ts. refl) (node l ∷ number at ∷ number x.at ∷ []) tt (rw small refl) _ ps rest _
      (below-con-written at x ps l rest) (λ m h. rw (h.0, ← h.1.0) refl) i c)

  below-above : IsPart total limit opens_paren (below l) (λ p. below_written p l) (below_one inner total)
  unfolding below_one
  below-above = part-form refl below-on (λ p rest i c. below-again rest c p i)

  provenance-on : (t : Token) → AtToken total limit (prov l) (λ p. prov_written p l) (provenance_one inner total) t
  unfolding provenance_one provenance_from begins into P.roll-PatTree denote.Hole.Carrier.roll P.out-PatTree denote.Hole.Carrier.out
  provenance-on (tok.Upper x) = node-at subprovenances l refl small (λ at ps. P.Con at (name_tree at x) ps) (λ ts. refl) (λ at. node l ∷ number at ∷ number at ∷ [])
      (λ at. tt) (λ at. (refl, (refl, tt))) (λ at. rw small refl) (λ at ps rest. below-con-written at (name_tree at x) ps l rest)
  provenance-on _ = none-at refl (λ ts. refl)

  provenance-again : (rest : List Written) → Clear opens_paren (tokens_in rest) → (p : PatTree) → IsRight total (prov_written p l rest)
      → Again total limit (provenance_one inner total) p (prov_written p l rest) rest
  unfolding provenance_one provenance_from into P.roll-PatTree denote.Hole.Carrier.roll P.out-PatTree denote.Hole.Carrier.out
  provenance-again rest c = by_form (λ p. IsRight total (prov_written p l rest) → Again total limit (provenance_one inner total) p (prov_written p l rest) rest)
      (λ at i. absurd i.0)
      (λ at x i. flawed total _ rest (below-Var at x l rest) i)
      (λ at n i. flawed total _ rest (below-Num at n l rest) i)
      (λ at x ps i. node-again subprovenances (tok.Upper x.text) (λ at ps. P.Con at (name_tree at x.text) ps) (λ ts. refl) (node l ∷ number at ∷ number x.at ∷ []) tt (rw small refl) _ ps rest _
      (below-con-written at x ps l rest) (λ m h. rw (h.0, ← h.1.0) refl) i c)

  provenance-above : IsPart total limit opens_paren (prov l) (λ p. prov_written p l) (provenance_one inner total)
  unfolding provenance_one
  provenance-above = part-form refl provenance-on (λ p rest i c. provenance-again rest c p i)

pub below-part : (total limit n l : ℕ) → l + n ≡ suc limit → IsPart total limit opens_paren (below l) (λ p. below_written p l) (reading.below n total)
unfolding reading.below
below-part total limit zero l e = below-zero total limit l e
below-part total limit (suc n) l e = below-above total limit l (within limit l n e) (below-part total limit n (suc l) (omega (arith, e)))

provenance-zero : (total limit l : ℕ) → l + 0 ≡ suc limit → IsPart total limit opens_paren (prov l) (λ p. prov_written p l) (λ ts. beyond begins_provenance ts)
unfolding begins P.roll-PatTree denote.Hole.Carrier.roll P.out-PatTree denote.Hole.Carrier.out
provenance-zero total limit l e = zero-form begins_provenance deeper none begun where
  deeper : (t : Token) → begins_provenance t ≡ true → IsDeep limit (begins (prov l) t)
  deeper (tok.Upper x) h = not-within limit l e
  deeper _ h = cc

  none : (t : Token) → begins_provenance t ≡ false → begins (prov l) t ≡ None
  none (tok.Upper x) h = cc
  none _ h = refl

  begun : (p : PatTree) (rest : List Written) → IsRight total (prov_written p l rest) → IsDeepBegun limit begins_provenance (prov_written p l rest)
  begun p rest = by_form (λ q. IsRight total (prov_written q l rest) → IsDeepBegun limit begins_provenance (prov_written q l rest))
      (λ at i. absurd i.0)
      (λ at x i. flawed total _ rest (below-Var at x l rest) i)
      (λ at n i. flawed total _ rest (below-Num at n l rest) i)
      (λ at x ps i. record { marks = node l ∷ number at ∷ number x.at ∷ []; first = tok.Upper x.text; others = _; whole = below-con-written at x ps l rest; are_marks = tt; is_deep = rw (not-within limit l e) refl; passes = refl })
      p

pub provenance-part : (total limit n l : ℕ) → l + n ≡ suc limit → IsPart total limit opens_paren (prov l) (λ p. prov_written p l) (provenance n total)
unfolding provenance
provenance-part total limit zero l e = provenance-zero total limit l e
provenance-part total limit (suc n) l e = provenance-above total limit l (within limit l n e) (below-part total limit n (suc l) (omega (arith, e)))
