-- Forms of the grammar put together: each law of a form once and for all, for every way of putting readers together.
use Rattle.std.proofs.Common.{◌≡◌, ℕ, suc, ◌<◌, List, [], ◌∷◌, ◌++◌, length, Bool, true, false, nat_lt, if◌then◌else◌, Some, None, Ok, Err, IfOk, refl, sym, ◌∙◌, ap, subst, arith, append_assoc}
use Rattle.std.proofs.lemmas.Grind.{common_steps}
use Rattle.rb_syntax.specs.declared.token.Token.{Token}
use Rattle.rb_syntax.specs.Written.{Written, tokens_in, Writing}
use Rattle.rb_read.specs.inner.Combining.{stuck, deep, ReadOutcome, Reader, ◌>>=◌, pair, into, nothing}
use Rattle.rb_read.proofs.Open.{Kind, Open, one, Step, ahead_of, if_so, begins, step, is_done, go_on, run}
use Rattle.rb_read.proofs.Forms.{goes, Spells, IsRight, Again, fits, exceeds, Clear, IsForm}

pub ok-bind : {A B : Type 0} (P : A × List Token → Type 0) (Q : B × List Token → Type 0) (r : ReadOutcome A) (f : A × List Token → ReadOutcome B)
    → IfOk r P → ((x : A × List Token) → P x → IfOk (f x) Q) → IfOk (r >>= f) Q
ok-bind P Q (Ok x) f p h = h x p
ok-bind P Q (Err e) f p h = tt

pub ok-same : {A : Type 0} {P Q : A × List Token → Type 0} (r : ReadOutcome A) → IfOk r P → ((x : A × List Token) → P x → Q x) → IfOk r Q
ok-same (Ok x) p h = h x p
ok-same (Err e) p h = tt

-- an answer under a test
pub ok-if : {B : Type 0} (Q : B × List Token → Type 0) (b : Bool) (r s : ReadOutcome B) → (b ≡ true → IfOk r Q) → (b ≡ false → IfOk s Q) → IfOk (if b then r else s) Q
ok-if Q true r s h k = h refl
ok-if Q false r s h k = k refl

pub goes-bind : {A B : Type 0} (limit : ℕ) (k k' : List Open) (r : ReadOutcome A) (f : A × List Token → ReadOutcome B)
    → ((x : A × List Token) → run limit k' x.1 ≡ goes limit k (f x)) → goes limit k' r ≡ goes limit k (r >>= f)
goes-bind limit k k' (Ok x) f h = h x
goes-bind limit k k' (Err (stuck m)) f h = refl
goes-bind limit k k' (Err (deep m)) f h = refl

-- the same, where the first reading says what it gives
pub goes-bind-ok : {A B : Type 0} (limit : ℕ) (k k' : List Open) (P : A × List Token → Type 0) (r : ReadOutcome A) (f : A × List Token → ReadOutcome B)
    → IfOk r P → ((x : A × List Token) → P x → run limit k' x.1 ≡ goes limit k (f x)) → goes limit k' r ≡ goes limit k (r >>= f)
goes-bind-ok limit k k' P (Ok x) f p h = h x p
goes-bind-ok limit k k' P (Err (stuck m)) f p h = refl
goes-bind-ok limit k k' P (Err (deep m)) f p h = refl

pub nat_lt-zero : (n : ℕ) → nat_lt n 0 ≡ false
nat_lt-zero n = grind (arith, common_steps)

-- what is read and what is left is shorter
abbrev pub IsStrict : {A : Type 0} → Reader A → Type 0
IsStrict r = (ts : List Token) → IfOk (r ts) (λ x. length x.1 < length ts)

-- Nothing.

pub nothing-form : (total limit : ℕ) → IsForm total limit (λ _. false) [] (λ _ rest. rest) nothing
unfolding nothing
nothing-form total limit = record {
  takes = λ ts rest h. h;
  again = λ x rest i c. fits refl refl i;
  follows = λ ts k. refl;
  shrinks = λ ts. omega arith;
}

-- One and then another.

module _ {A B : Type 0} {total limit : ℕ} {bars1 bars2 : Token → Bool} {o1 o2 : List Open} {w1 : A → Writing} {w2 : B → Writing} {r : Reader A} {s : Reader B}
    (f : IsForm total limit bars1 o1 w1 r) (g : IsForm total limit bars2 o2 w2 s) where
  second-again : (p : A × B) (rest : List Written) → Clear bars2 (tokens_in rest)
      → Again total limit r p.0 (w1 p.0 (w2 p.1 rest)) (w2 p.1 rest) → Again total limit (pair r s) p (w1 p.0 (w2 p.1 rest)) rest
  unfolding pair
  second-again p rest c (exceeds m o e) = exceeds m o (rw e refl)
  second-again p rest c (fits o e i) = behind (g.again p.1 rest i c) where
    behind : Again total limit s p.1 (w2 p.1 rest) rest → Again total limit (pair r s) p (w1 p.0 (w2 p.1 rest)) rest
    behind (exceeds m o' e') = exceeds m (o ∙ o') (rw (e, e') refl)
    behind (fits o' e' i') = fits (o ∙ o') (rw (e, e') refl) i'

  -- what is written second, before what may stand behind it, never begins with what would go on with the first
  pub pair-form : ((b : B) (rest : List Written) → Clear bars2 (tokens_in rest) → Clear bars1 (tokens_in (w2 b rest)))
      → IsForm total limit bars2 (o1 ++ o2) (λ p rest. w1 p.0 (w2 p.1 rest)) (pair r s)
  unfolding pair
  pair-form clear = record {
    takes = λ ts. ok-bind _ _ (r ts) _ (f.takes ts) (λ x p. ok-bind _ _ (s x.1) _ (g.takes x.1) (λ y q. λ rest h. p _ (q rest h)));
    again = λ p rest i c. second-again p rest c (f.again p.0 (w2 p.1 rest) i (clear p.1 rest c));
    follows = λ ts k. ap (λ os. run limit os ts) (append_assoc o1 o2 k) ∙ f.follows ts (o2 ++ k) ∙ goes-bind limit k (o2 ++ k) (r ts) _ (λ x.
        g.follows x.1 k ∙ goes-bind limit k k (s x.1) _ (λ y. refl));
    shrinks = λ ts. ok-bind _ _ (r ts) _ (f.shrinks ts) (λ x p. ok-bind _ _ (s x.1) _ (g.shrinks x.1) (λ y q. omega arith));
  }

  pub first-strict : IsStrict r → IsStrict (pair r s)
  unfolding pair
  first-strict h ts = ok-bind _ _ (r ts) _ (h ts) (λ x p. ok-bind _ _ (s x.1) _ (g.shrinks x.1) (λ y q. omega arith))

  pub second-strict : IsStrict s → IsStrict (pair r s)
  unfolding pair
  second-strict h ts = ok-bind _ _ (r ts) _ (f.shrinks ts) (λ x p. ok-bind _ _ (s x.1) _ (h x.1) (λ y q. omega arith))

-- What is made of a form.

pub into-again : {A X : Type 0} {total limit : ℕ} {r : Reader A} (make : A → X) (a : A) (ws rest : List Written)
    → Again total limit r a ws rest → Again total limit (into make r) (make a) ws rest
unfolding into
into-again make a ws rest (fits o e i) = fits o (rw e refl) i
into-again make a ws rest (exceeds m o e) = exceeds m o (rw e refl)

pub into-strict : {A X : Type 0} (make : A → X) (r : Reader A) → IsStrict r → IsStrict (into make r)
unfolding into
into-strict make r h ts = ok-bind _ _ (r ts) _ (h ts) (λ x p. p)

pub iso-form : {A X : Type 0} {total limit : ℕ} {bars : Token → Bool} {opens : List Open} {written : A → Writing} {written' : X → Writing} {r : Reader A}
    (make : A → X) (parts : X → A) → ((x : X) → make (parts x) ≡ x) → ((a : A) (rest : List Written) → written' (make a) rest ≡ written a rest)
    → IsForm total limit bars opens written r → IsForm total limit bars opens written' (into make r)
unfolding into
iso-form {total = total} {limit = limit} {bars = bars} {written = written} {written' = written'} {r = r} make parts whole same f = record {
  takes = λ ts. ok-bind _ _ (r ts) _ (f.takes ts) (λ x p. λ rest h. subst (λ ws. Spells total limit ts ws) (sym (same x.0 rest)) (p rest h));
  again = λ x rest i c. subst (λ y. IsRight total (written' y rest) → Again total limit (into make r) y (written' y rest) rest) (whole x)
      (λ j. made (parts x) rest c (subst (λ ws. IsRight total ws) (same (parts x) rest) j)) i;
  follows = λ ts k. f.follows ts k ∙ goes-bind limit k k (r ts) _ (λ x. refl);
  shrinks = λ ts. ok-bind _ _ (r ts) _ (f.shrinks ts) (λ x p. p);
} where
  made : (a : _) (rest : List Written) → Clear bars (tokens_in rest) → IsRight total (written a rest)
      → Again total limit (into make r) (make a) (written' (make a) rest) rest
  made a rest c i = subst (λ ws. Again total limit (into make r) (make a) ws rest) (sym (same a rest)) (into-again make a _ rest (f.again a rest i c))

-- The same form in other words.

pub written-form : {X : Type 0} {total limit : ℕ} {bars : Token → Bool} {opens : List Open} {written written' : X → Writing} {r : Reader X}
    → ((x : X) (rest : List Written) → written' x rest ≡ written x rest)
    → IsForm total limit bars opens written r → IsForm total limit bars opens written' r
written-form {total = total} {limit = limit} {r = r} same f = record {
  takes = λ ts. ok-same (r ts) (f.takes ts) (λ x p. λ rest h. subst (λ ws. Spells total limit ts ws) (sym (same x.0 rest)) (p rest h));
  again = λ x rest i c. subst (λ ws. Again total limit r x ws rest) (sym (same x rest)) (f.again x rest (subst (λ ws. IsRight total ws) (same x rest) i) c);
  follows = f.follows;
  shrinks = f.shrinks;
}

pub clear-more : (bars bars' : Token → Bool) (ts : List Token) → ((t : Token) → bars' t ≡ false → bars t ≡ false) → Clear bars' ts → Clear bars ts
clear-more bars bars' [] h c = tt
clear-more bars bars' (t ∷ ts) h c = h t c

pub all-clear : (ts : List Token) → Clear (λ _. false) ts
all-clear [] = tt
all-clear (t ∷ ts) = refl

pub bars-form : {X : Type 0} {total limit : ℕ} {bars bars' : Token → Bool} {opens : List Open} {written : X → Writing} {r : Reader X}
    → ((t : Token) → bars' t ≡ false → bars t ≡ false)
    → IsForm total limit bars opens written r → IsForm total limit bars' opens written r
bars-form {bars = bars} {bars' = bars'} h f = record {
  takes = f.takes;
  again = λ x rest i c. f.again x rest i (clear-more bars bars' (tokens_in rest) h c);
  follows = f.follows;
  shrinks = f.shrinks;
}

-- what is open in fewer words: a part of the grammar that begins as another does, with more behind it
pub opens-form : {X : Type 0} {total limit : ℕ} {bars : Token → Bool} {opens opens' : List Open} {written : X → Writing} {r : Reader X}
    → ((k : List Open) (ts : List Token) → run limit (opens' ++ k) ts ≡ run limit (opens ++ k) ts)
    → IsForm total limit bars opens written r → IsForm total limit bars opens' written r
opens-form same f = record { takes = f.takes; again = f.again; follows = λ ts k. same k ts ∙ f.follows ts k; shrinks = f.shrinks }

pub ahead-ahead : (k os : List Open) (s : Step) → ahead_of k (ahead_of os s) ≡ ahead_of (os ++ k) s
ahead-ahead k os None = refl
ahead-ahead k os (Some s) = ap (λ o. Some (s.0, o)) (append_assoc s.1 os k)

pub if_so-ahead : (b : Bool) (os : List Open) → if_so b os ≡ ahead_of os (if_so b [])
if_so-ahead true os = refl
if_so-ahead false os = refl

run-alias : (limit : ℕ) (a b : Kind) (os k : List Open) → ((t : Token) → begins a t ≡ ahead_of os (begins b t)) → (ts : List Token)
    → run limit (one a ∷ k) ts ≡ run limit (one b ∷ os ++ k) ts
unfolding run step is_done
run-alias limit a b os k h [] = refl
run-alias limit a b os k h (t ∷ ts) =
    ap (λ s. go_on limit (suc (length ts)) s (λ k'. run limit k' ts)) (ap (λ s. ahead_of k s) (h t) ∙ ahead-ahead k os (begins b t))

pub alias-form : {X : Type 0} {total limit : ℕ} {bars : Token → Bool} {a b : Kind} {os : List Open} {written : X → Writing} {r : Reader X}
    → ((t : Token) → begins a t ≡ ahead_of os (begins b t))
    → IsForm total limit bars (one b ∷ os) written r → IsForm total limit bars (one a ∷ []) written r
alias-form {limit = limit} {a = a} {b = b} {os = os} h f = opens-form (λ k ts. run-alias limit a b os k h ts) f
