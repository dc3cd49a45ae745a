-- Lists of parts as forms.
use Rattle.std.proofs.Common.{◌≡◌, ℕ, zero, suc, ◌<◌, ◌≤◌, List, [], ◌∷◌, map, length, drop, Bool, true, false, if◌then◌else◌, Option, Some, None, is_some, Ok, Err, IfOk, refl, sym, ◌∙◌, ap, subst, arith}
use Rattle.rb_syntax.specs.declared.token.Symbol.{Symbol}
use Rattle.rb_syntax.specs.declared.token.Symbol.TheVariants as symbol
use Rattle.rb_syntax.specs.declared.token.Token.{Token}
use Rattle.rb_syntax.specs.declared.token.Token.TheVariants as tok
use Rattle.rb_syntax.specs.Written.{Written, token, tokens_in, Writing, each, each_behind, some_with, any_with}
use Rattle.rb_syntax.specs.Spelling.{comma, fields_written}
use Rattle.rb_read.specs.inner.Starting.{is_symbol}
use Rattle.rb_read.specs.inner.Combining.{stuck, deep, ReadOutcome, Reader, ◌>>=◌, into, passing_token, expect, at_front, begins_with, with_all, behind, some_of, some_closed, any_closed, in_parens, optional, many_of, each_of}
use Rattle.rb_read.proofs.Open.{Kind, fields, Open, one, maybe, many, first, next, Step, ahead_of, if_so, or_else, begins, step, is_done, stopped, end_of_tokens, go_on, run}
use Rattle.rb_read.proofs.Forms.{goes, Spells, Took, IsRight, Again, fits, exceeds, Clear, IsForm}
use Rattle.rb_read.proofs.FormLaws.{ok-bind, ok-same, ok-if, goes-bind, goes-bind-ok, nat_lt-zero, IsStrict, into-again, clear-more, all-clear}
use Rattle.rb_read.proofs.NodeForms.{IsPart, put-token, again-behind}
use Rattle.rb_read.proofs.TokenForms.{is_symbol-self, is_symbol-is, symbol-part}

-- Where a part does not begin.

run-nothing : (limit n : ℕ) (ts : List Token) → length ts < n → stopped n ≡ run limit [] ts → ⊥
unfolding run step is_done end_of_tokens go_on
run-nothing limit n [] l e = cc
run-nothing limit n (t ∷ ts) l e = let h : n ≡ suc (length ts) = cc in absurd (omega arith)

stopped-goes : {A : Type 0} (limit n : ℕ) (q : ReadOutcome A) → IfOk q (λ x. length x.1 < n) → stopped n ≡ goes limit [] q → q ≡ Err (stuck n)
stopped-goes limit n (Ok x) l e = absurd (run-nothing limit n x.1 l e)
stopped-goes limit n (Err (stuck m)) l e = let h : n ≡ m = cc in rw h refl
stopped-goes limit n (Err (deep m)) l e = absurd cc

module _ {A : Type 0} {total limit : ℕ} {bars : Token → Bool} {a : Kind} {w : A → Writing} {r : Reader A} (p : IsPart total limit bars a w r) where
  pub not-begun : (t : Token) (ts : List Token) → begins a t ≡ None → r (t ∷ ts) ≡ Err (stuck (suc (length ts)))
  unfolding run step go_on
  not-begun t ts e = stopped-goes limit (suc (length ts)) (r (t ∷ ts)) (p.strict (t ∷ ts)) (sym (rw e refl) ∙ p.form.follows (t ∷ ts) [])

  pub no-token : r [] ≡ Err (stuck 0)
  unfolding run is_done end_of_tokens
  no-token = stopped-goes limit 0 (r []) (p.strict []) (p.form.follows [] [])

  -- what is read again begins with a token that begins the part
  pub again-begun : (Q : List Token → Type 0) → ((t : Token) (ts : List Token) → is_some (begins a t) ≡ true → Q (t ∷ ts))
      → (x : A) (ws rest : List Written) → Again total limit r x ws rest → Q (tokens_in ws)
  again-begun Q h x ws rest g = by_list (tokens_in ws) (read g) where
    -- nothing else than a place at which nothing goes on is read
    IsFine : ReadOutcome A → Type 0
    IsFine q = (n : ℕ) → q ≡ Err (stuck n) → ⊥

    read : Again total limit r x ws rest → (n : ℕ) → r (tokens_in ws) ≡ Err (stuck n) → ⊥
    read (fits o e i) n e' = cc
    read (exceeds m o e) n e' = cc

    by_step : (t : Token) (ts : List Token) (s : Step) → begins a t ≡ s → ((n : ℕ) → r (t ∷ ts) ≡ Err (stuck n) → ⊥) → Q (t ∷ ts)
    by_step t ts None e k = absurd (k _ (not-begun t ts e))
    by_step t ts (Some s) e k = h t ts (rw e refl)

    by_list : (ts : List Token) → ((n : ℕ) → r ts ≡ Err (stuck n) → ⊥) → Q ts
    by_list [] k = absurd (k 0 no-token)
    by_list (t ∷ ts) k = by_step t ts (begins a t) refl k

  pub again-longer : (x : A) (ws rest : List Written) → Again total limit r x ws rest → 0 < length (tokens_in ws)
  again-longer = again-begun (λ ts. 0 < length ts) (λ t ts b. omega arith)

-- reading that goes on behind what is read again
bind-again : {A B : Type 0} (total limit : ℕ) (r : Reader A) (q : Reader B) (f : A × List Token → ReadOutcome B) (x : A) (y : B) (ws vs rest : List Written)
    → q (tokens_in ws) ≡ (r (tokens_in ws) >>= f) → Again total limit r x ws vs
    → (r (tokens_in ws) ≡ Ok (x, tokens_in vs) → IsRight total vs → Again total limit (λ us. f (x, us)) y vs rest) → Again total limit q y ws rest
bind-again total limit r q f x y ws vs rest s (exceeds m o e) h = exceeds m o (s ∙ ap (λ z. z >>= f) e)
bind-again total limit r q f x y ws vs rest s (fits o e i) h = more (h e i) where
  more : Again total limit (λ us. f (x, us)) y vs rest → Again total limit q y ws rest
  more (fits o' e' i') = fits (o ∙ o') (s ∙ ap (λ z. z >>= f) e ∙ e') i'
  more (exceeds m o' e') = exceeds m (o ∙ o') (s ∙ ap (λ z. z >>= f) e ∙ e')

pub begins_with-is : (s : Symbol) (ts : List Token) → begins_with s ts ≡ true → ts ≡ tok.Symbol s ∷ drop 1 ts
begins_with-is s [] e = absurd cc
begins_with-is s (t ∷ ts) e = ap (λ u. u ∷ ts) (is_symbol-is s t e)

-- what is read as some is there
some-behind : (total limit : ℕ) (s : Token) (ts : List Token) (ws : List Writing) (end : List Written)
    → Spells total limit ts (some_with s ws end) → Spells total limit (s ∷ ts) (each_behind s ws end)
some-behind total limit s ts [] end h = absurd h.formed
some-behind total limit s ts (w ∷ ws) end h = put-token total limit s ts _ h

some-any : (total limit : ℕ) (s : Token) (ts : List Token) (ws : List Writing) (end : List Written)
    → Spells total limit ts (some_with s ws end) → Spells total limit ts (any_with s ws end)
some-any total limit s ts [] end h = absurd h.formed
some-any total limit s ts (w ∷ ws) end h = h

-- One part or more.

module _ {A : Type 0} {total limit : ℕ} {bars : Token → Bool} {a : Kind} {w : A → Writing} {r : Reader A} (p : IsPart total limit bars a w r) (s c : Symbol) where
  abbrev pub closed : List A → Writing
  closed xs rest = some_with (tok.Symbol s) (map w xs) (token (tok.Symbol c) ∷ rest)

  some-takes : (n : ℕ) (ts : List Token) → IfOk (some_of r s c n ts) (λ x. Took total limit ts (closed x.0) x.1)
  unfolding some_of behind
  some-takes zero ts = tt
  some-takes (suc n) ts = ok-bind _ _ (r ts) _ (p.form.takes ts) (λ x q.
      ok-if _ (begins_with s x.1) _ _
      (λ e. ok-bind _ _ (some_of r s c n (drop 1 x.1)) _ (some-takes n (drop 1 x.1)) (λ y z. λ rest h.
      q _ (subst (λ us. Spells total limit us (each_behind (tok.Symbol s) (map w y.0) (token (tok.Symbol c) ∷ rest))) (sym (begins_with-is s x.1 e))
      (some-behind total limit (tok.Symbol s) (drop 1 x.1) (map w y.0) _ (z rest h)))))
      (λ e. ok-bind _ _ (expect c x.1) _ ((symbol-part total limit c).form.takes x.1) (λ y z. λ rest h. q _ (z rest h))))

  some-shorter : (n : ℕ) (ts : List Token) → IfOk (some_of r s c n ts) (λ x. length x.1 < length ts)
  unfolding some_of behind
  some-shorter zero ts = tt
  some-shorter (suc n) ts = ok-bind _ _ (r ts) _ (p.strict ts) (λ x l.
      ok-if _ (begins_with s x.1) _ _
      (λ e. ok-bind _ _ (some_of r s c n (drop 1 x.1)) _ (some-shorter n (drop 1 x.1)) (λ y m.
      let h : length x.1 ≡ suc (length (drop 1 x.1)) = ap length (begins_with-is s x.1 e) in omega arith))
      (λ e. ok-bind _ _ (expect c x.1) _ ((symbol-part total limit c).strict x.1) (λ y m. omega arith)))

  pub some_closed-strict : IsStrict (some_closed r s c)
  some_closed-strict ts = some-shorter (length ts) ts

  next-follows : (k : List Open) (n : ℕ) (x : A) (ts : List Token) → length ts ≤ suc n
      → ((us : List Token) → length us ≤ n → run limit (one a ∷ next a s c ∷ k) us ≡ goes limit k (some_of r s c n us))
      → run limit (next a s c ∷ k) ts ≡ goes limit k (behind s c (λ us. some_of r s c n us) x ts)
  unfolding behind run step passing_token is_done end_of_tokens go_on
  next-follows k n x [] l h = refl
  next-follows k n x (u ∷ us) l h = by_test (is_symbol s u) (is_symbol c u) where
    by_test : (b d : Bool) → go_on limit (suc (length us)) (if b then Some (0, one a ∷ next a s c ∷ k) else if d then Some (0, k) else None) (λ k'. run limit k' us)
        ≡ goes limit k (if b then with_all (x ∷ []) (some_of r s c n us)
        else ((if d then Ok (tt {0}, us) else Err (stuck (suc (length us)))) >>= λ y. Ok (x ∷ [], y.1)))
    by_test true d = rw nat_lt-zero (h us (omega arith) ∙ goes-bind limit k k (some_of r s c n us) _ (λ y. refl))
    by_test false true = rw nat_lt-zero refl
    by_test false false = refl

  some-follows : (k : List Open) (n : ℕ) (ts : List Token) → length ts ≤ n → run limit (one a ∷ next a s c ∷ k) ts ≡ goes limit k (some_of r s c n ts)
  unfolding some_of run is_done end_of_tokens
  some-follows k zero [] l = refl
  some-follows k zero (t ∷ ts) l = absurd (omega arith)
  some-follows k (suc n) ts l = p.form.follows ts (next a s c ∷ k) ∙ goes-bind-ok limit k (next a s c ∷ k) _ (r ts) _ (p.strict ts) (λ x m.
      next-follows k n x.0 x.1 (omega arith) (λ us d. some-follows k n us d))

  some-again : (x : A) (xs : List A) (n : ℕ) (rest : List Written) → bars (tok.Symbol s) ≡ false → bars (tok.Symbol c) ≡ false → is_symbol s (tok.Symbol c) ≡ false
      → IsRight total (closed (x ∷ xs) rest) → length (tokens_in (closed (x ∷ xs) rest)) ≤ n → Again total limit (λ us. some_of r s c n us) (x ∷ xs) (closed (x ∷ xs) rest) rest
  unfolding some_of behind passing_token into
  some-again x [] zero rest bs bc d i l =
      absurd (omega (arith, again-longer p x (closed (x ∷ []) rest) (token (tok.Symbol c) ∷ rest) (p.form.again x _ i bc)))
  some-again x [] (suc n) rest bs bc d i l =
      bind-again total limit r _ (λ z. behind s c (λ us. some_of r s c n us) z.0 z.1) x (x ∷ []) (closed (x ∷ []) rest) (token (tok.Symbol c) ∷ rest) rest refl
      (p.form.again x _ i bc) (λ e j. fits refl (rw (d, is_symbol-self c) refl) j)
  some-again x (y ∷ ys) zero rest bs bc d i l =
      absurd (omega (arith, again-longer p x (closed (x ∷ y ∷ ys) rest) (token (tok.Symbol s) ∷ closed (y ∷ ys) rest) (p.form.again x _ i bs)))
  some-again x (y ∷ ys) (suc n) rest bs bc d i l =
      let vs : List Written = closed (y ∷ ys) rest in
      bind-again total limit r _ (λ z. behind s c (λ us. some_of r s c n us) z.0 z.1) x (x ∷ y ∷ ys) (closed (x ∷ y ∷ ys) rest) (token (tok.Symbol s) ∷ vs) rest refl
      (p.form.again x _ i bs) (λ e j.
      let m : length (tok.Symbol s ∷ tokens_in vs) < length (tokens_in (closed (x ∷ y ∷ ys) rest)) = subst (λ q. IfOk q (λ z. length z.1 < length (tokens_in (closed (x ∷ y ∷ ys) rest)))) e (p.strict _) in
      again-behind total limit _ (into (λ zs. x ∷ zs) (λ us. some_of r s c n us)) (x ∷ y ∷ ys) vs (token (tok.Symbol s) ∷ vs) rest (rw (is_symbol-self s) refl) refl
      (into-again (λ zs. x ∷ zs) (y ∷ ys) vs rest (some-again y ys n rest bs bc d j (omega arith))))

  some-again-closed : bars (tok.Symbol s) ≡ false → bars (tok.Symbol c) ≡ false → is_symbol s (tok.Symbol c) ≡ false → (x : A) (xs : List A) (rest : List Written)
      → IsRight total (closed (x ∷ xs) rest) → Again total limit (some_closed r s c) (x ∷ xs) (closed (x ∷ xs) rest) rest
  some-again-closed bs bc d x xs rest i =
      again-behind total limit (some_closed r s c) (λ us. some_of r s c (length (tokens_in (closed (x ∷ xs) rest))) us) (x ∷ xs) (closed (x ∷ xs) rest) (closed (x ∷ xs) rest) rest refl refl
      (some-again x xs (length (tokens_in (closed (x ∷ xs) rest))) rest bs bc d i (omega arith))

  pub some_closed-form : bars (tok.Symbol s) ≡ false → bars (tok.Symbol c) ≡ false → is_symbol s (tok.Symbol c) ≡ false
      → IsForm total limit (λ _. false) (one a ∷ next a s c ∷ []) closed (some_closed r s c)
  some_closed-form bs bc d = record {
    takes = λ ts. some-takes (length ts) ts;
    again = λ xs rest i _. again xs rest i;
    follows = λ ts k. some-follows k (length ts) ts (omega arith);
    shrinks = λ ts. ok-same (some_closed r s c ts) (some_closed-strict ts) (λ x l. omega arith);
  } where
    again : (xs : List A) (rest : List Written) → IsRight total (closed xs rest) → Again total limit (some_closed r s c) xs (closed xs rest) rest
    again [] rest i = absurd i.0
    again (x ∷ xs) rest i = some-again-closed bs bc d x xs rest i

-- Any number of parts.

module _ {A : Type 0} {total limit : ℕ} {bars : Token → Bool} {a : Kind} {w : A → Writing} {r : Reader A} (p : IsPart total limit bars a w r) (c : Symbol) where
  abbrev pub any_written : List A → Writing
  any_written xs rest = any_with comma (map w xs) (token (tok.Symbol c) ∷ rest)

  pub any_closed-strict : IsStrict (any_closed r c)
  unfolding any_closed
  any_closed-strict ts = ok-if _ (begins_with c ts) _ _ (λ e. let h : length ts ≡ suc (length (drop 1 ts)) = ap length (begins_with-is c ts e) in omega arith)
      (λ e. some_closed-strict p symbol.Comma c ts)

  any-takes : (ts : List Token) → IfOk (any_closed r c ts) (λ x. Took total limit ts (any_written x.0) x.1)
  unfolding any_closed
  any-takes ts = ok-if _ (begins_with c ts) _ _
      (λ e. λ rest h. subst (λ us. Spells total limit us (token (tok.Symbol c) ∷ rest)) (sym (begins_with-is c ts e)) (put-token total limit (tok.Symbol c) (drop 1 ts) rest h))
      (λ e. ok-same (some_closed r symbol.Comma c ts) (some-takes p symbol.Comma c (length ts) ts) (λ x q. λ rest h. some-any total limit comma ts (map w x.0) _ (q rest h)))

  any-follows : (k : List Open) (ts : List Token) → run limit (first a c ∷ k) ts ≡ goes limit k (any_closed r c ts)
  unfolding any_closed run step is_done end_of_tokens go_on some_of
  any-follows k [] = refl
  any-follows k (u ∷ us) = by_test (is_symbol c u) where
    by_test : (b : Bool) → go_on limit (suc (length us)) (if b then Some (0, k) else ahead_of (next a symbol.Comma c ∷ k) (begins a u)) (λ k'. run limit k' us)
        ≡ goes limit k (if b then Ok ([], us) else some_closed r symbol.Comma c (u ∷ us))
    by_test true = rw nat_lt-zero refl
    by_test false = some-follows p symbol.Comma c k (suc (length us)) (u ∷ us) (omega arith)

  -- where no part begins with the symbol that closes them
  pub any_closed-form : bars comma ≡ false → bars (tok.Symbol c) ≡ false → is_symbol symbol.Comma (tok.Symbol c) ≡ false → begins a (tok.Symbol c) ≡ None
      → IsForm total limit (λ _. false) (first a c ∷ []) any_written (any_closed r c)
  unfolding any_closed
  any_closed-form bs bc d none = record {
    takes = any-takes;
    again = again;
    follows = λ ts k. any-follows k ts;
    shrinks = λ ts. ok-same (any_closed r c ts) (any_closed-strict ts) (λ x l. omega arith);
  } where
    other : (t : Token) (ts : List Token) → is_some (begins a t) ≡ true → begins_with c (t ∷ ts) ≡ false
    other t ts b = by_test (is_symbol c t) (λ e. ap (λ u. is_some (begins a u)) (is_symbol-is c t e)) where
      by_test : (d : Bool) → (d ≡ true → is_some (begins a t) ≡ is_some (begins a (tok.Symbol c))) → d ≡ false
      by_test true h = let e : is_some (begins a (tok.Symbol c)) ≡ true = sym (h refl) ∙ b in absurd cc
      by_test false h = refl

    again : (xs : List A) (rest : List Written) → IsRight total (any_written xs rest) → Clear (λ _. false) (tokens_in rest) → Again total limit (any_closed r c) xs (any_written xs rest) rest
    again [] rest i k = fits refl (rw (is_symbol-self c) refl) i
    again (x ∷ xs) rest i k = again-behind total limit (any_closed r c) (some_closed r symbol.Comma c) (x ∷ xs) ws ws rest (rw begun refl) refl some where
      ws : List Written
      ws = any_written (x ∷ xs) rest

      some : Again total limit (some_closed r symbol.Comma c) (x ∷ xs) ws rest
      some = (some_closed-form p symbol.Comma c bs bc d).again (x ∷ xs) rest i k

      behind_it : List Written
      behind_it = each_behind comma (map w xs) (token (tok.Symbol c) ∷ rest)

      clear : (ys : List A) → Clear bars (tokens_in (each_behind comma (map w ys) (token (tok.Symbol c) ∷ rest)))
      clear [] = bc
      clear (y ∷ ys) = bs

      begun : begins_with c (tokens_in ws) ≡ false
      begun = again-begun p (λ ts. begins_with c ts ≡ false) other x ws behind_it (p.form.again x behind_it i (clear xs))

-- Parts in parentheses.

module _ {A : Type 0} {total limit : ℕ} {bars : Token → Bool} {a : Kind} {w : A → Writing} {r : Reader A} (p : IsPart total limit bars a w r) where
  abbrev pub in_parentheses : List A → Writing
  in_parentheses xs rest = fields_written (map w xs) rest

  some-fields : (ts : List Token) (ws : List Writing) (rest : List Written) → Spells total limit ts (some_with comma ws (token (tok.Symbol symbol.CloseParen) ∷ rest))
      → Spells total limit (tok.Symbol symbol.OpenParen ∷ ts) (fields_written ws rest)
  some-fields ts [] rest h = absurd h.formed
  some-fields ts (v ∷ ws) rest h = put-token total limit (tok.Symbol symbol.OpenParen) ts _ h

  fields-takes : (ts : List Token) → IfOk (in_parens r ts) (λ x. Took total limit ts (in_parentheses x.0) x.1)
  unfolding in_parens
  fields-takes ts = ok-if _ (begins_with symbol.OpenParen ts) _ _
      (λ e. ok-same (some_closed r symbol.Comma symbol.CloseParen (drop 1 ts)) (some-takes p symbol.Comma symbol.CloseParen (length (drop 1 ts)) (drop 1 ts)) (λ x q. λ rest h.
      subst (λ us. Spells total limit us (in_parentheses x.0 rest)) (sym (begins_with-is symbol.OpenParen ts e)) (some-fields (drop 1 ts) (map w x.0) rest (q rest h))))
      (λ e. λ rest h. h)

  fields-shrinks : (ts : List Token) → IfOk (in_parens r ts) (λ x. length x.1 ≤ length ts)
  unfolding in_parens
  fields-shrinks ts = ok-if _ (begins_with symbol.OpenParen ts) _ _
      (λ e. let h : length ts ≡ suc (length (drop 1 ts)) = ap length (begins_with-is symbol.OpenParen ts e) in
      ok-same (some_closed r symbol.Comma symbol.CloseParen (drop 1 ts)) (some_closed-strict p symbol.Comma symbol.CloseParen (drop 1 ts)) (λ x l. omega arith))
      (λ e. omega arith)

  fields-follows : (k : List Open) (ts : List Token) → run limit (maybe (fields a) ∷ k) ts ≡ goes limit k (in_parens r ts)
  unfolding in_parens run step begins is_done end_of_tokens go_on
  fields-follows k [] = refl
  fields-follows k (u ∷ us) = by_test (is_symbol symbol.OpenParen u) where
    by_test : (b : Bool) → go_on limit (suc (length us)) (or_else (ahead_of k (if_so b (one a ∷ next a symbol.Comma symbol.CloseParen ∷ []))) (step k u)) (λ k'. run limit k' us)
        ≡ goes limit k (if b then some_closed r symbol.Comma symbol.CloseParen us else Ok ([], u ∷ us))
    by_test true = rw nat_lt-zero (some-follows p symbol.Comma symbol.CloseParen k (length us) us (omega arith))
    by_test false = refl

  pub in_parens-form : bars comma ≡ false → bars (tok.Symbol symbol.CloseParen) ≡ false
      → IsForm total limit (λ t. is_symbol symbol.OpenParen t) (maybe (fields a) ∷ []) in_parentheses (in_parens r)
  unfolding in_parens
  in_parens-form bs bc = record { takes = fields-takes; again = again; follows = λ ts k. fields-follows k ts; shrinks = fields-shrinks } where
    none : (rest : List Written) (ts : List Token) → Clear (λ t. is_symbol symbol.OpenParen t) ts → begins_with symbol.OpenParen ts ≡ false
    none rest [] k = refl
    none rest (t ∷ ts) k = k

    again : (xs : List A) (rest : List Written) → IsRight total (in_parentheses xs rest) → Clear (λ t. is_symbol symbol.OpenParen t) (tokens_in rest)
        → Again total limit (in_parens r) xs (in_parentheses xs rest) rest
    again [] rest i k = fits refl (rw (none rest (tokens_in rest) k) refl) i
    again (x ∷ xs) rest i k = again-behind total limit (in_parens r) (some_closed r symbol.Comma symbol.CloseParen) (x ∷ xs) vs (token (tok.Symbol symbol.OpenParen) ∷ vs) rest refl refl
        (some-again-closed p symbol.Comma symbol.CloseParen bs bc refl x xs rest i) where
          vs : List Written
          vs = closed p symbol.Comma symbol.CloseParen (x ∷ xs) rest

-- One part or none, and any number one after the other, told by the first token.

abbrev pub perhaps : {A : Type 0} → (A → Writing) → Option A → Writing
perhaps w None rest = rest
perhaps w (Some x) rest = w x rest

at_front-none : (test : Token → Bool) (ts : List Token) → Clear test ts → at_front test ts ≡ false
at_front-none test [] k = refl
at_front-none test (t ∷ ts) k = k

none-begun : (s : Step) → is_some s ≡ false → s ≡ None
none-begun None e = refl
none-begun (Some s) e = absurd cc

first-of : (s : Step) (k : List Open) (other : Step) → is_some s ≡ true → or_else (ahead_of k s) other ≡ ahead_of k s
first-of None k other e = absurd cc
first-of (Some s) k other e = refl

module _ {A : Type 0} {total limit : ℕ} {bars : Token → Bool} {a : Kind} {w : A → Writing} {r : Reader A} (p : IsPart total limit bars a w r)
    (test : Token → Bool) (tells : (t : Token) → is_some (begins a t) ≡ test t) where
  begun : (x : A) (ws rest : List Written) → Again total limit r x ws rest → at_front test (tokens_in ws) ≡ true
  begun = again-begun p (λ ts. at_front test ts ≡ true) (λ t ts b. sym (tells t) ∙ b)

  -- what goes on with the part, where the token begins it
  begun-follows : (behind_it k : List Open) (t : Token) (ts : List Token) (other : Step) → test t ≡ true
      → go_on limit (suc (length ts)) (or_else (ahead_of behind_it (begins a t)) other) (λ k'. run limit k' ts) ≡ goes limit behind_it (r (t ∷ ts))
  unfolding run step
  begun-follows behind_it k t ts other e =
      ap (λ s. go_on limit (suc (length ts)) s (λ k'. run limit k' ts)) (first-of (begins a t) behind_it other (tells t ∙ e)) ∙ p.form.follows (t ∷ ts) behind_it

  optional-follows : (k : List Open) (ts : List Token) → run limit (maybe a ∷ k) ts ≡ goes limit k (optional test r ts)
  unfolding optional run step is_done end_of_tokens into
  optional-follows k [] = refl
  optional-follows k (u ∷ us) = by_test (test u) refl where
    by_test : (b : Bool) → test u ≡ b → go_on limit (suc (length us)) (or_else (ahead_of k (begins a u)) (step k u)) (λ k'. run limit k' us)
        ≡ goes limit k (if b then into (λ x. Some x) r (u ∷ us) else Ok (None, u ∷ us))
    by_test true e = begun-follows k k u us (step k u) e ∙ goes-bind limit k k (r (u ∷ us)) _ (λ x. refl)
    by_test false e = rw (none-begun (begins a u) (tells u ∙ e)) refl

  pub optional-form : ((t : Token) → test t ≡ false → bars t ≡ false) → IsForm total limit test (maybe a ∷ []) (λ x rest. perhaps w x rest) (optional test r)
  unfolding optional into
  optional-form clear = record {
    takes = λ ts. ok-if _ (at_front test ts) _ _ (λ e. ok-bind _ _ (r ts) _ (p.form.takes ts) (λ x q. q)) (λ e. λ rest h. h);
    again = again;
    follows = λ ts k. optional-follows k ts;
    shrinks = λ ts. ok-if _ (at_front test ts) _ _ (λ e. ok-bind _ _ (r ts) _ (p.form.shrinks ts) (λ x q. q)) (λ e. omega arith);
  } where
    again : (x : Option A) (rest : List Written) → IsRight total (perhaps w x rest) → Clear test (tokens_in rest) → Again total limit (optional test r) x (perhaps w x rest) rest
    again None rest i k = fits refl (rw (at_front-none test (tokens_in rest) k) refl) i
    again (Some x) rest i k =
        let g : Again total limit r x (w x rest) rest = p.form.again x rest i (clear-more bars test (tokens_in rest) clear k) in
        again-behind total limit (optional test r) (into (λ y. Some y) r) (Some x) (w x rest) (w x rest) rest (rw (begun x (w x rest) rest g) refl) refl
        (into-again (λ y. Some y) x (w x rest) rest g)

  many-takes : (n : ℕ) (ts : List Token) → IfOk (many_of test r n ts) (λ x. Took total limit ts (each (map w x.0)) x.1)
  unfolding many_of
  many-takes zero ts = λ rest h. h
  many-takes (suc n) ts = ok-if _ (at_front test ts) _ _
      (λ e. ok-bind _ _ (r ts) _ (p.form.takes ts) (λ x q. ok-bind _ _ (many_of test r n x.1) _ (many-takes n x.1) (λ y z. λ rest h. q _ (z rest h))))
      (λ e. λ rest h. h)

  many-shrinks : (n : ℕ) (ts : List Token) → IfOk (many_of test r n ts) (λ x. length x.1 ≤ length ts)
  unfolding many_of
  many-shrinks zero ts = omega arith
  many-shrinks (suc n) ts = ok-if _ (at_front test ts) _ _
      (λ e. ok-bind _ _ (r ts) _ (p.form.shrinks ts) (λ x q. ok-bind _ _ (many_of test r n x.1) _ (many-shrinks n x.1) (λ y z. omega arith)))
      (λ e. omega arith)

  many-follows : (k : List Open) (n : ℕ) (ts : List Token) → length ts ≤ n → run limit (many a ∷ k) ts ≡ goes limit k (many_of test r n ts)
  unfolding many_of run step is_done end_of_tokens
  many-follows k zero [] l = refl
  many-follows k zero (u ∷ us) l = absurd (omega arith)
  many-follows k (suc n) [] l = refl
  many-follows k (suc n) (u ∷ us) l = by_test (test u) refl (λ vs m. many-follows k n vs m) where
    by_test : (b : Bool) → test u ≡ b → ((vs : List Token) → length vs ≤ n → run limit (many a ∷ k) vs ≡ goes limit k (many_of test r n vs))
        → go_on limit (suc (length us)) (or_else (ahead_of (many a ∷ k) (begins a u)) (step k u)) (λ k'. run limit k' us)
        ≡ goes limit k (if b then (r (u ∷ us) >>= λ x. with_all (x.0 ∷ []) (many_of test r n x.1)) else Ok ([], u ∷ us))
    by_test true e h = begun-follows (many a ∷ k) k u us (step k u) e ∙ goes-bind-ok limit k (many a ∷ k) _ (r (u ∷ us)) _ (p.strict (u ∷ us)) (λ x m.
        h x.1 (omega arith) ∙ goes-bind limit k k (many_of test r n x.1) _ (λ y. refl))
    by_test false e h = rw (none-begun (begins a u) (tells u ∙ e)) refl

  many-again : ((t : Token) → bars t ≡ false) → (xs : List A) (n : ℕ) (rest : List Written) → IsRight total (each (map w xs) rest) → Clear test (tokens_in rest) → length (tokens_in (each (map w xs) rest)) ≤ n
      → Again total limit (λ us. many_of test r n us) xs (each (map w xs) rest) rest
  unfolding many_of into
  many-again free [] zero rest i k l = fits refl refl i
  many-again free [] (suc n) rest i k l = fits refl (rw (at_front-none test (tokens_in rest) k) refl) i
  many-again free (x ∷ xs) zero rest i k l =
      let ws : List Written = each (map w (x ∷ xs)) rest in
      let vs : List Written = each (map w xs) rest in
      absurd (omega (arith, again-longer p x ws vs (p.form.again x vs i (clear-more bars (λ _. false) (tokens_in vs) (λ t _. free t) (all-clear (tokens_in vs))))))
  many-again free (x ∷ xs) (suc n) rest i k l =
      let ws : List Written = each (map w (x ∷ xs)) rest in
      let vs : List Written = each (map w xs) rest in
      let g : Again total limit r x ws vs = p.form.again x vs i (clear-more bars (λ _. false) (tokens_in vs) (λ t _. free t) (all-clear (tokens_in vs))) in
      bind-again total limit r _ (λ z. with_all (z.0 ∷ []) (many_of test r n z.1)) x (x ∷ xs) ws vs rest (rw (begun x ws vs g) refl) g (λ e j.
      let m : length (tokens_in vs) < length (tokens_in ws) = subst (λ q. IfOk q (λ z. length z.1 < length (tokens_in ws))) e (p.strict _) in
      again-behind total limit _ (into (λ zs. x ∷ zs) (λ us. many_of test r n us)) (x ∷ xs) vs vs rest refl refl
      (into-again (λ zs. x ∷ zs) xs vs rest (many-again free xs n rest j k (omega arith))))

  -- where nothing goes on with a part
  pub each-form : ((t : Token) → bars t ≡ false) → IsForm total limit test (many a ∷ []) (λ xs rest. each (map w xs) rest) (each_of test r)
  each-form free = record {
    takes = λ ts. many-takes (length ts) ts;
    again = λ xs rest i k. again-behind total limit (each_of test r) (λ us. many_of test r (length (tokens_in (each (map w xs) rest))) us) xs _ _ rest refl refl
        (many-again free xs (length (tokens_in (each (map w xs) rest))) rest i k (omega arith));
    follows = λ ts k. many-follows k (length ts) ts (omega arith);
    shrinks = λ ts. many-shrinks (length ts) ts;
  }
