-- Forms that are told by their first token.
--
-- A production takes two tables and `part-form`. One goes over the first token: `node-at`, with the form that stands
-- behind the token; `whole-at`, with a form that begins with the token itself; `deep-at` where what begins is too deep;
-- `none-at` where nothing begins; and `if-at` where the token has a test to pass. The other goes over the tree's forms:
-- `node-again`, `whole-again` or `deep-again`. Each line names what is made of what stands behind, with the number of
-- the node's place, and the marks in front of the token; what is left to prove is `refl` or the equation of the form's
-- spelling. So an addition is
--
--     on (tok.Reserved word.Add) = node-at operands l refl small (λ at. operation_of at op.Add) (λ ts. refl)
--         (λ at. node l ∷ number at ∷ []) (λ at. tt) (λ at. (refl, tt)) (λ at. rw small refl)
--         (λ at (_, (first, second)) rest. expr-Binary at op.Add first second l rest)
--
--     add at a b = node-again operands (tok.Reserved word.Add) (λ at. operation_of at op.Add) (λ ts. refl)
--         (node l ∷ number at ∷ []) tt (rw small refl) (X.Binary at op.Add a b) (tt, (a, b)) rest _
--         (expr-Binary at op.Add a b l rest) (λ m h. rw h.0 refl) i c
--
-- where `operands` is the form of `(a, b)`, by `pair-form` and `closed_by-form` of forms of its symbols and of the
-- expressions one level below, and `operation_of` makes a tree of its parts.
use Rattle.std.proofs.Common.{◌≡◌, ℕ, suc, ◌-◌, ◌≤◌, List, [], ◌∷◌, ◌++◌, length, Bool, true, false, nat_lt, if◌then◌else◌, Some, None, Err, IfOk, refl, sym, ◌∙◌, ap, subst, arith}
use Rattle.std.proofs.lemmas.Grind.{common_steps}
use Rattle.rb_syntax.specs.declared.token.Token.{Token}
use Rattle.rb_syntax.specs.Written.{Written, token, number, node, flaw, tokens_in, Writing}
use Rattle.rb_read.specs.inner.Combining.{stuck, deep, Reader, into, beyond}
use Rattle.rb_read.proofs.Open.{Kind, Open, one, Step, ahead_of, begins, step, is_done, end_of_tokens, go_on, run}
use Rattle.rb_read.proofs.Forms.{goes, Spells, Took, IsRight, over, Again, fits, exceeds, Clear, IsForm}
use Rattle.rb_read.proofs.FormLaws.{ok-bind, ok-same, goes-bind, IsStrict, into-again, ahead-ahead}

-- What stands in front of a node's first token: the node, and numbers of its place.

abbrev pub AreMarks : List Written → Type 0
AreMarks [] = Unit {0}
AreMarks (token t ∷ ms) = ⊥
AreMarks (number n ∷ ms) = AreMarks ms
AreMarks (node l ∷ ms) = AreMarks ms
AreMarks (flaw ∷ ms) = ⊥

-- each number is this one
abbrev pub AllAre : ℕ → List Written → Type 0
AllAre at [] = Unit {0}
AllAre at (token t ∷ ms) = AllAre at ms
AllAre at (number n ∷ ms) = (n ≡ at) × AllAre at ms
AllAre at (node l ∷ ms) = AllAre at ms
AllAre at (flaw ∷ ms) = AllAre at ms

-- there is a node beyond the limit
abbrev pub is_deeper : ℕ → List Written → Bool
is_deeper limit [] = false
is_deeper limit (token t ∷ ms) = is_deeper limit ms
is_deeper limit (number n ∷ ms) = is_deeper limit ms
is_deeper limit (node l ∷ ms) = if nat_lt limit l then true else is_deeper limit ms
is_deeper limit (flaw ∷ ms) = is_deeper limit ms

pub marks-tokens : (ms ws : List Written) → AreMarks ms → tokens_in (ms ++ ws) ≡ tokens_in ws
marks-tokens [] ws h = refl
marks-tokens (token t ∷ ms) ws h = absurd h
marks-tokens (number n ∷ ms) ws h = marks-tokens ms ws h
marks-tokens (node l ∷ ms) ws h = marks-tokens ms ws h
marks-tokens (flaw ∷ ms) ws h = absurd h

-- a node in front: a test of its level, and the case where it is no deeper than the limit
deeper-if : (P : Bool → Type 0) (b c d : Bool) → (if b then true else c) ≡ d → (b ≡ true → d ≡ true → P true) → (b ≡ false → c ≡ d → P false) → P b
deeper-if P true c d e h k = h refl (sym e)
deeper-if P false c d e h k = k refl e

pub marks-over : (limit : ℕ) (ms ws : List Written) → AreMarks ms → is_deeper limit ms ≡ false → over limit (ms ++ ws) ≡ over limit ws
marks-over limit [] ws h e = refl
marks-over limit (token t ∷ ms) ws h e = absurd h
marks-over limit (number n ∷ ms) ws h e = marks-over limit ms ws h e
marks-over limit (node l ∷ ms) ws h e =
    deeper-if (λ b. (if b then Some (length (tokens_in (ms ++ ws))) else over limit (ms ++ ws)) ≡ over limit ws) (nat_lt limit l) (is_deeper limit ms) false e
    (λ a c. absurd cc) (λ a c. marks-over limit ms ws h c)
marks-over limit (flaw ∷ ms) ws h e = absurd h

pub marks-deep : (limit : ℕ) (ms ws : List Written) → AreMarks ms → is_deeper limit ms ≡ true → over limit (ms ++ ws) ≡ Some (length (tokens_in ws))
marks-deep limit [] ws h e = absurd cc
marks-deep limit (token t ∷ ms) ws h e = absurd h
marks-deep limit (number n ∷ ms) ws h e = marks-deep limit ms ws h e
marks-deep limit (node l ∷ ms) ws h e =
    deeper-if (λ b. (if b then Some (length (tokens_in (ms ++ ws))) else over limit (ms ++ ws)) ≡ Some (length (tokens_in ws))) (nat_lt limit l) (is_deeper limit ms) true e
    (λ a c. ap (λ ts. Some (length ts)) (marks-tokens ms ws h)) (λ a c. marks-deep limit ms ws h c)
marks-deep limit (flaw ∷ ms) ws h e = absurd h

pub marks-right : (total : ℕ) (ms ws : List Written) → AreMarks ms → IsRight total (ms ++ ws) → AllAre (total - length (tokens_in ws)) ms × IsRight total ws
marks-right total [] ws h i = (tt, i)
marks-right total (token t ∷ ms) ws h i = absurd h
marks-right total (number n ∷ ms) ws h i =
    let r = marks-right total ms ws h (i.0, i.1.1) in
    ((i.1.0 ∙ ap (λ ts. total - length ts) (marks-tokens ms ws h), r.0), r.1)
marks-right total (node l ∷ ms) ws h i = marks-right total ms ws h i
marks-right total (flaw ∷ ms) ws h i = absurd h

not-deeper : (limit l : ℕ) (b : Bool) → (if nat_lt limit l then true else b) ≡ false → (l ≤ limit) × (b ≡ false)
not-deeper limit l b e = deeper-if (λ c. nat_lt limit l ≡ c → (l ≤ limit) × (b ≡ false)) (nat_lt limit l) b false e
    (λ a c. absurd cc) (λ a c d. (grind (arith, common_steps), c)) refl

pub marks-spell : (total limit : ℕ) (ts : List Token) (ms ws : List Written) → AreMarks ms → AllAre (total - length ts) ms → is_deeper limit ms ≡ false
    → Spells total limit ts ws → Spells total limit ts (ms ++ ws)
marks-spell total limit ts [] ws h a e s = s
marks-spell total limit ts (token t ∷ ms) ws h a e s = absurd h
marks-spell total limit ts (number n ∷ ms) ws h a e s =
    let r : Spells total limit ts (ms ++ ws) = marks-spell total limit ts ms ws h a.1 e s in
    record { spells = r.spells; formed = r.formed; numbered = (a.0 ∙ ap (λ us. total - length us) (sym r.spells), r.numbered); small = r.small }
marks-spell total limit ts (node l ∷ ms) ws h a e s =
    let d : (l ≤ limit) × (is_deeper limit ms ≡ false) = not-deeper limit l (is_deeper limit ms) e in
    let r : Spells total limit ts (ms ++ ws) = marks-spell total limit ts ms ws h a d.1 s in
    record { spells = r.spells; formed = r.formed; numbered = r.numbered; small = (d.0, r.small) }
marks-spell total limit ts (flaw ∷ ms) ws h a e s = absurd h

-- What a reader does from a token on.

pub record AtToken (total limit : ℕ) {X : Type 0} (a : Kind) (written : X → Writing) (r : Reader X) (t : Token) : Type 0 where
  pub takes_on : (ts : List Token) → IfOk (r (t ∷ ts)) (λ x. Took total limit (t ∷ ts) (written x.0) x.1)
  pub follows_on : (ts : List Token) (k : List Open) → run limit (one a ∷ k) (t ∷ ts) ≡ goes limit k (r (t ∷ ts))
  pub shrinks_on : (ts : List Token) → IfOk (r (t ∷ ts)) (λ x. length x.1 ≤ length ts)

-- a part of the grammar, which has a token
pub record IsPart (total limit : ℕ) {X : Type 0} (bars : Token → Bool) (a : Kind) (written : X → Writing) (r : Reader X) : Type 0 where
  pub form : IsForm total limit bars (one a ∷ []) written r
  pub strict : IsStrict r

pub part-form : {X : Type 0} {total limit : ℕ} {bars : Token → Bool} {a : Kind} {written : X → Writing} {r : Reader X}
    → r [] ≡ Err (stuck 0) → ((t : Token) → AtToken total limit a written r t)
    → ((x : X) (rest : List Written) → IsRight total (written x rest) → Clear bars (tokens_in rest) → Again total limit r x (written x rest) rest)
    → IsPart total limit bars a written r
unfolding run is_done end_of_tokens step
part-form {X = X} {total = total} {limit = limit} {bars = bars} {a = a} {written = written} {r = r} empty on again = record {
  form = record { takes = taken; again = again; follows = followed; shrinks = λ ts. ok-same (r ts) (shorter ts) (λ x p. omega arith) };
  strict = shorter;
} where
  taken : (ts : List Token) → IfOk (r ts) (λ x. Took total limit ts (written x.0) x.1)
  taken [] = rw empty tt
  taken (t ∷ ts) = (on t).takes_on ts

  followed : (ts : List Token) (k : List Open) → run limit (one a ∷ k) ts ≡ goes limit k (r ts)
  followed [] k = rw empty refl
  followed (t ∷ ts) k = (on t).follows_on ts k

  shorter : IsStrict r
  shorter [] = rw empty tt
  shorter (t ∷ ts) = ok-same (r (t ∷ ts)) ((on t).shrinks_on ts) (λ x p. omega arith)

-- nothing begins with the token
pub none-at : {X : Type 0} {total limit : ℕ} {a : Kind} {written : X → Writing} {r : Reader X} {t : Token}
    → begins a t ≡ None → ((ts : List Token) → r (t ∷ ts) ≡ Err (stuck (suc (length ts)))) → AtToken total limit a written r t
unfolding run step go_on
none-at none err = record { takes_on = λ ts. rw (err ts) tt; follows_on = λ ts k. rw (none, err ts) refl; shrinks_on = λ ts. rw (err ts) tt }

-- a node that the token begins is too deep
pub deep-at : {X : Type 0} {total limit : ℕ} {a : Kind} {written : X → Writing} {r : Reader X} {t : Token} (level : ℕ) (opens : List Open)
    → begins a t ≡ Some (level, opens) → nat_lt limit level ≡ true → ((ts : List Token) → r (t ∷ ts) ≡ Err (deep (suc (length ts)))) → AtToken total limit a written r t
unfolding run step go_on
deep-at level opens begun more err = record { takes_on = λ ts. rw (err ts) tt; follows_on = λ ts k. rw (begun, err ts, more) refl; shrinks_on = λ ts. rw (err ts) tt }

pub put-token : (total limit : ℕ) (t : Token) (ts : List Token) (ws : List Written) → Spells total limit ts ws → Spells total limit (t ∷ ts) (token t ∷ ws)
put-token total limit t ts ws s = record { spells = ap (λ us. t ∷ us) s.spells; formed = s.formed; numbered = s.numbered; small = s.small }

-- the same reading, of more in front
pub again-behind : {X : Type 0} (total limit : ℕ) (r r' : Reader X) (x : X) (vs ws rest : List Written) → r (tokens_in ws) ≡ r' (tokens_in vs) → over limit ws ≡ over limit vs
    → Again total limit r' x vs rest → Again total limit r x ws rest
again-behind total limit r r' x vs ws rest e o (fits o' e' i) = fits (o ∙ o') (e ∙ e') i
again-behind total limit r r' x vs ws rest e o (exceeds m o' e') = exceeds m (o ∙ o') (e ∙ e')

module _ {A X : Type 0} {total limit : ℕ} {bars : Token → Bool} {opens : List Open} {w : A → Writing} {tail : Reader A} (f : IsForm total limit bars opens w tail) where
  -- behind the token stands a form, which may tell the marks in front
  pub node-at-by : {a : Kind} {written : X → Writing} {r : Reader X} {t : Token} (level : ℕ) → begins a t ≡ Some (level, opens) → nat_lt limit level ≡ false
      → (make : ℕ → A → X) → ((ts : List Token) → r (t ∷ ts) ≡ into (make (total - suc (length ts))) tail ts)
      → (ms : ℕ → A → List Written) → ((at : ℕ) (y : A) → AreMarks (ms at y)) → ((at : ℕ) (y : A) → AllAre at (ms at y)) → ((at : ℕ) (y : A) → is_deeper limit (ms at y) ≡ false)
      → ((at : ℕ) (y : A) (rest : List Written) → written (make at y) rest ≡ ms at y ++ token t ∷ w y rest)
      → AtToken total limit a written r t
  unfolding run step go_on into
  node-at-by {a = a} {written = written} {r = r} {t = t} level begun small make reads ms marks all not_deep same = record {
    takes_on = λ ts. subst (λ q. IfOk q (λ x. Took total limit (t ∷ ts) (written x.0) x.1)) (sym (reads ts)) (ok-bind _ _ (tail ts) _ (f.takes ts) (λ x p. λ rest h.
        let at = total - suc (length ts) in
        subst (λ ws. Spells total limit (t ∷ ts) ws) (sym (same at x.0 rest))
        (marks-spell total limit (t ∷ ts) (ms at x.0) (token t ∷ w x.0 rest) (marks at x.0) (all at x.0) (not_deep at x.0) (put-token total limit t ts _ (p rest h)))));
    follows_on = λ ts k. rw (begun, small, reads ts) (f.follows ts k ∙ goes-bind limit k k (tail ts) _ (λ x. refl));
    shrinks_on = λ ts. subst (λ q. IfOk q (λ x. length x.1 ≤ length ts)) (sym (reads ts)) (ok-bind _ _ (tail ts) _ (f.shrinks ts) (λ x p. p));
  }

  pub node-at : {a : Kind} {written : X → Writing} {r : Reader X} {t : Token} (level : ℕ) → begins a t ≡ Some (level, opens) → nat_lt limit level ≡ false
      → (make : ℕ → A → X) → ((ts : List Token) → r (t ∷ ts) ≡ into (make (total - suc (length ts))) tail ts)
      → (ms : ℕ → List Written) → ((at : ℕ) → AreMarks (ms at)) → ((at : ℕ) → AllAre at (ms at)) → ((at : ℕ) → is_deeper limit (ms at) ≡ false)
      → ((at : ℕ) (y : A) (rest : List Written) → written (make at y) rest ≡ ms at ++ token t ∷ w y rest)
      → AtToken total limit a written r t
  node-at level begun small make reads ms marks all not_deep same = node-at-by level begun small make reads (λ at y. ms at) (λ at y. marks at) (λ at y. all at) (λ at y. not_deep at) same

  pub node-again : {r : Reader X} (t : Token) (make : ℕ → A → X) → ((ts : List Token) → r (t ∷ ts) ≡ into (make (total - suc (length ts))) tail ts)
      → (ms : List Written) → AreMarks ms → is_deeper limit ms ≡ false
      → (x : X) (y : A) (rest ws : List Written) → ws ≡ ms ++ token t ∷ w y rest → ((at : ℕ) → AllAre at ms → make at y ≡ x)
      → IsRight total ws → Clear bars (tokens_in rest) → Again total limit r x ws rest
  node-again {r = r} t make reads ms marks not_deep x y rest ws same whole i c =
      let vs : List Written = w y rest in
      let us : List Token = tokens_in vs in
      let at : ℕ = total - suc (length us) in
      let m : AllAre at ms × IsRight total vs = marks-right total ms (token t ∷ vs) marks (subst (λ u. IsRight total u) same i) in
      let inner : Again total limit (into (make at) tail) (make at y) vs rest = into-again (make at) y vs rest (f.again y rest m.1 c) in
      let tokens : tokens_in ws ≡ t ∷ us = ap tokens_in same ∙ marks-tokens ms (token t ∷ vs) marks in
      subst (λ z. Again total limit r z ws rest) (whole at m.0)
      (again-behind total limit r (into (make at) tail) (make at y) vs ws rest (ap r tokens ∙ reads us)
      (ap (λ u. over limit u) same ∙ marks-over limit ms (token t ∷ vs) marks not_deep) inner)

-- a tree that is too deep
pub deep-again : {X : Type 0} {total limit : ℕ} {r : Reader X} (t : Token) → ((ts : List Token) → r (t ∷ ts) ≡ Err (deep (suc (length ts))))
    → (ms : List Written) → AreMarks ms → is_deeper limit ms ≡ true
    → (x : X) (vs rest ws : List Written) → ws ≡ ms ++ token t ∷ vs → Again total limit r x ws rest
deep-again {limit = limit} {r = r} t err ms marks is_deep x vs rest ws same =
    exceeds (suc (length (tokens_in vs))) (ap (λ u. over limit u) same ∙ marks-deep limit ms (token t ∷ vs) marks is_deep)
    (ap r (ap tokens_in same ∙ marks-tokens ms (token t ∷ vs) marks) ∙ err (tokens_in vs))

-- With no level left.

-- what a token begins is a node beyond the limit
abbrev pub IsDeep : ℕ → Step → Type 0
IsDeep limit None = ⊥
IsDeep limit (Some s) = nat_lt limit s.0 ≡ true

-- what is written begins with a node beyond the limit and a token that passes the test
pub record IsDeepBegun (limit : ℕ) (test : Token → Bool) (ws : List Written) : Type 0 where
  pub marks : List Written
  pub first : Token
  pub others : List Written
  pub whole : ws ≡ marks ++ token first ∷ others
  pub are_marks : AreMarks marks
  pub is_deep : is_deeper limit marks ≡ true
  pub passes : test first ≡ true

pub if-at : {P : Type 0} (b : Bool) → (b ≡ true → P) → (b ≡ false → P) → P
if-at true h k = h refl
if-at false h k = k refl

begun-deep : {X : Type 0} {total limit : ℕ} {a : Kind} {written : X → Writing} {r : Reader X} {t : Token} (s : Step) → begins a t ≡ s → IsDeep limit s
    → ((ts : List Token) → r (t ∷ ts) ≡ Err (deep (suc (length ts)))) → AtToken total limit a written r t
begun-deep None e h err = absurd h
begun-deep (Some s) e h err = deep-at s.0 s.1 e h err

pub zero-form : {X : Type 0} {total limit : ℕ} {bars : Token → Bool} {a : Kind} {written : X → Writing} (test : Token → Bool)
    → ((t : Token) → test t ≡ true → IsDeep limit (begins a t)) → ((t : Token) → test t ≡ false → begins a t ≡ None)
    → ((x : X) (rest : List Written) → IsRight total (written x rest) → IsDeepBegun limit test (written x rest))
    → IsPart total limit bars a written (λ ts. beyond test ts)
unfolding beyond
zero-form {total = total} {limit = limit} {bars = bars} {a = a} {written = written} test deeper none begun = part-form refl
    (λ t. if-at (test t) (λ e. begun-deep (begins a t) refl (deeper t e) (λ ts. rw e refl)) (λ e. none-at (none t e) (λ ts. rw e refl)))
    (λ x rest i c. let b : IsDeepBegun limit test (written x rest) = begun x rest i in
    deep-again b.first (λ ts. rw b.passes refl) b.marks b.are_marks b.is_deep x b.others rest (written x rest) b.whole)

-- A form that begins with the same token, with marks in front.

module _ {A X : Type 0} {total limit : ℕ} {bars : Token → Bool} {b : Kind} {os : List Open} {w : A → Writing} {inner : Reader A} (f : IsForm total limit bars (one b ∷ os) w inner) where
  pub whole-at : {a : Kind} {written : X → Writing} {r : Reader X} {t : Token} → begins a t ≡ ahead_of os (begins b t)
      → (make : ℕ → A → X) → ((ts : List Token) → r (t ∷ ts) ≡ into (make (total - suc (length ts))) inner (t ∷ ts))
      → IsStrict inner
      → (ms : ℕ → List Written) → ((at : ℕ) → AreMarks (ms at)) → ((at : ℕ) → AllAre at (ms at)) → ((at : ℕ) → is_deeper limit (ms at) ≡ false)
      → ((at : ℕ) (y : A) (rest : List Written) → written (make at y) rest ≡ ms at ++ w y rest)
      → AtToken total limit a written r t
  unfolding run step into
  whole-at {a = a} {written = written} {r = r} {t = t} begun make reads strict ms marks all not_deep same = record {
    takes_on = λ ts. subst (λ q. IfOk q (λ x. Took total limit (t ∷ ts) (written x.0) x.1)) (sym (reads ts)) (ok-bind _ _ (inner (t ∷ ts)) _ (f.takes (t ∷ ts)) (λ x p. λ rest h.
        let at = total - suc (length ts) in
        subst (λ ws. Spells total limit (t ∷ ts) ws) (sym (same at x.0 rest))
        (marks-spell total limit (t ∷ ts) (ms at) (w x.0 rest) (marks at) (all at) (not_deep at) (p rest h))));
    follows_on = λ ts k. ap (λ s. go_on limit (suc (length ts)) s (λ k'. run limit k' ts)) (ap (λ s. ahead_of k s) begun ∙ ahead-ahead k os (begins b t))
        ∙ f.follows (t ∷ ts) k ∙ rw (reads ts) (goes-bind limit k k (inner (t ∷ ts)) _ (λ x. refl));
    shrinks_on = λ ts. subst (λ q. IfOk q (λ x. length x.1 ≤ length ts)) (sym (reads ts)) (ok-bind _ _ (inner (t ∷ ts)) _ (strict (t ∷ ts)) (λ x p. omega arith));
  }

  pub whole-again : {r : Reader X} (t : Token) (make : ℕ → A → X) → ((ts : List Token) → r (t ∷ ts) ≡ into (make (total - suc (length ts))) inner (t ∷ ts))
      → (ms : List Written) → AreMarks ms → is_deeper limit ms ≡ false
      → (x : X) (y : A) (ts : List Token) (rest ws : List Written) → ws ≡ ms ++ w y rest → tokens_in (w y rest) ≡ t ∷ ts → ((at : ℕ) → AllAre at ms → make at y ≡ x)
      → IsRight total ws → Clear bars (tokens_in rest) → Again total limit r x ws rest
  whole-again {r = r} t make reads ms marks not_deep x y ts rest ws same begun whole i c =
      let vs : List Written = w y rest in
      let at : ℕ = total - suc (length ts) in
      let m : AllAre (total - length (tokens_in vs)) ms × IsRight total vs = marks-right total ms vs marks (subst (λ u. IsRight total u) same i) in
      let again : Again total limit (into (make at) inner) (make at y) vs rest = into-again (make at) y vs rest (f.again y rest m.1 c) in
      subst (λ z. Again total limit r z ws rest) (whole at (subst (λ us. AllAre (total - length us) ms) begun m.0))
      (again-behind total limit r (into (make at) inner) (make at y) vs ws rest
      (ap r (ap tokens_in same ∙ marks-tokens ms vs marks ∙ begun) ∙ reads ts ∙ ap (into (make at) inner) (sym begun))
      (ap (λ u. over limit u) same ∙ marks-over limit ms vs marks not_deep) again)
