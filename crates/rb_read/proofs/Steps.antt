-- What is open behind tokens, at any level, and where a run ends.
use Rattle.std.proofs.Common.{◌≡◌, ◌≢◌, ℕ, suc, ◌+◌, ◌≤◌, List, [], ◌∷◌, ◌++◌, length, Bool, true, false, nat_lt, if◌then◌else◌, Option, Some, None, refl, ap, subst, arith}
use Rattle.std.proofs.lemmas.Grind.{common_steps}
use Rattle.rb_syntax.specs.declared.token.Token.{Token}
use Rattle.rb_read.proofs.Open.{Open, Step, step, is_done, End, whole, stopped, too_deep, end_of_tokens, go_on, run}

unfoldable pub goes_to : Step → (List Open → Option (List Open)) → Option (List Open)
goes_to None behind = None
goes_to (Some s) behind = behind s.1

-- what is open behind these tokens
unfoldable pub steps : List Open → List Token → Option (List Open)
steps k [] = Some k
steps k (t ∷ ts) = goes_to (step k t) (λ k'. steps k' ts)

goes_to-append : (o : Step) (f g : List Open → Option (List Open)) (k' k'' : List Open) → goes_to o f ≡ Some k'
    → ((j : List Open) → f j ≡ Some k' → g j ≡ Some k'') → goes_to o g ≡ Some k''
unfolding goes_to
goes_to-append None f g k' k'' e h = cc
goes_to-append (Some s) f g k' k'' e h = h s.1 e

pub steps-append : (p q : List Token) (k k' k'' : List Open) → steps k p ≡ Some k' → steps k' q ≡ Some k'' → steps k (p ++ q) ≡ Some k''
unfolding steps
steps-append [] q k k' k'' e h = let d : k ≡ k' = cc in rw d h
steps-append (t ∷ p) q k k' k'' e h = goes_to-append (step k t) _ _ k' k'' e (λ j w. steps-append p q j k' k'' w h)

-- A run that is whole under a limit is whole under each greater one.
go_on-more : (limit more left : ℕ) (o : Step) (f g : List Open → End) → limit ≤ more → ((j : List Open) → f j ≡ whole → g j ≡ whole)
    → go_on limit left o f ≡ whole → go_on more left o g ≡ whole
unfolding go_on
go_on-more limit more left None f g l h w = cc
go_on-more limit more left (Some s) f g l h w = by_level (nat_lt limit s.0) refl w where
  by_level : (b : Bool) → nat_lt limit s.0 ≡ b → (if b then too_deep left else f s.1) ≡ whole → (if nat_lt more s.0 then too_deep left else g s.1) ≡ whole
  by_level true e q = cc
  by_level false e q = let d : nat_lt more s.0 ≡ false = grind (arith, common_steps, e, l) in rw d (h s.1 q)

pub whole-more : (limit more : ℕ) (ts : List Token) (k : List Open) → limit ≤ more → run limit k ts ≡ whole → run more k ts ≡ whole
unfolding run
whole-more limit more [] k l w = w
whole-more limit more (t ∷ ts) k l w = go_on-more limit more _ (step k t) _ _ l (λ j q. whole-more limit more ts j l q) w

-- a limit under which a run is whole
abbrev pub SomeWhole : List Open → List Token → Type 0
SomeWhole k ts = (limit : ℕ) × (run limit k ts ≡ whole)

some-step : (ts : List Token) (last : List Open) (o : Step) → goes_to o (λ j. steps j ts) ≡ Some last → ((j : List Open) → steps j ts ≡ Some last → SomeWhole j ts)
    → (limit : ℕ) × (go_on limit (suc (length ts)) o (λ j. run limit j ts) ≡ whole)
unfolding goes_to go_on
some-step ts last None e h = cc
some-step ts last (Some s) e h =
    let w : SomeWhole s.1 ts = h s.1 e in
    let d : nat_lt (w.0 + s.0) s.0 ≡ false = grind (arith, common_steps) in
    (w.0 + s.0, rw d (whole-more w.0 (w.0 + s.0) ts s.1 (omega arith) w.1))

-- What no step stops is whole under some limit.
pub some-whole : (ts : List Token) (k last : List Open) → steps k ts ≡ Some last → is_done last ≡ true → SomeWhole k ts
unfolding steps run end_of_tokens
some-whole [] k last e d = let q : k ≡ last = cc in (0, rw (q, d) refl)
some-whole (t ∷ ts) k last e d = some-step ts last (step k t) e (λ j w. some-whole ts j last w d)

-- A run over the first tokens comes to what is open behind them.
go_on-not_whole : (limit left : ℕ) (o : Step) (f : List Open → Option (List Open)) (g : List Open → End) (k' : List Open) → goes_to o f ≡ Some k'
    → ((j : List Open) → f j ≡ Some k' → g j ≢ whole) → go_on limit left o g ≢ whole
unfolding goes_to go_on
go_on-not_whole limit left None f g k' e h w = cc
go_on-not_whole limit left (Some s) f g k' e h w = by_level (nat_lt limit s.0) w where
  by_level : (b : Bool) → (if b then too_deep left else g s.1) ≡ whole → ⊥
  by_level true x = cc
  by_level false x = h s.1 e x

pub not_whole : (limit : ℕ) (p q : List Token) (k k' : List Open) → steps k p ≡ Some k' → run limit k' q ≢ whole → run limit k (p ++ q) ≢ whole
unfolding steps run
not_whole limit [] q k k' e h = let d : k' ≡ k = cc in subst (λ j. run limit j q ≢ whole) d h
not_whole limit (t ∷ p) q k k' e h = go_on-not_whole limit _ (step k t) _ _ k' e (λ j w. not_whole limit p q j k' w h)

-- where a run stops
pub record Stops (k : List Open) (ts : List Token) (m : ℕ) : Type 0 where
  pub front : List Token
  pub back : List Token
  pub parts : ts ≡ front ++ back
  pub left : length back ≡ m
  pub last : List Open
  pub before : steps k front ≡ Some last
  pub here : (t : Token) (us : List Token) → back ≡ t ∷ us → step last t ≡ None
  pub at_end : back ≡ [] → is_done last ≡ false

stops_at-end : (k : List Open) (m : ℕ) (b : Bool) → is_done k ≡ b → end_of_tokens b ≡ stopped m → Stops k [] m
unfolding end_of_tokens steps
stops_at-end k m true d e = cc
stops_at-end k m false d e = record { front = []; back = []; parts = refl; left = cc; last = k; before = refl; here = λ t us h. cc; at_end = λ h. d }

stops-step : (limit : ℕ) (t : Token) (ts : List Token) (k : List Open) (m : ℕ) (o : Step) → step k t ≡ o
    → go_on limit (suc (length ts)) o (λ k'. run limit k' ts) ≡ stopped m → ((k' : List Open) → run limit k' ts ≡ stopped m → Stops k' ts m) → Stops k (t ∷ ts) m
unfolding go_on steps goes_to
stops-step limit t ts k m None d e h = record {
  front = [];
  back = t ∷ ts;
  parts = refl;
  left = cc;
  last = k;
  before = refl;
  here = λ u us q. let f : u ≡ t = cc in rw f d;
  at_end = λ q. cc;
}
stops-step limit t ts k m (Some s) d e h = by_level (nat_lt limit s.0) e where
  by_level : (b : Bool) → (if b then too_deep (suc (length ts)) else run limit s.1 ts) ≡ stopped m → Stops k (t ∷ ts) m
  by_level true q = cc
  by_level false q = let r : Stops s.1 ts m = h s.1 q in record {
    front = t ∷ r.front;
    back = r.back;
    parts = ap (λ us. t ∷ us) r.parts;
    left = r.left;
    last = r.last;
    before = rw d r.before;
    here = r.here;
    at_end = r.at_end;
  }

pub stops : (limit : ℕ) (ts : List Token) (k : List Open) (m : ℕ) → run limit k ts ≡ stopped m → Stops k ts m
unfolding run
stops limit [] k m e = stops_at-end k m (is_done k) refl e
stops limit (t ∷ ts) k m e = stops-step limit t ts k m (step k t) refl e (λ k' e'. stops limit ts k' m e')

-- where a run is too deep
pub record Deepens (limit : ℕ) (k : List Open) (ts : List Token) (m : ℕ) : Type 0 where
  pub front : List Token
  pub token : Token
  pub back : List Token
  pub parts : ts ≡ front ++ token ∷ back
  pub left : suc (length back) ≡ m
  pub last : List Open
  pub before : steps k front ≡ Some last
  pub level : ℕ
  pub behind : List Open
  pub begins : step last token ≡ Some (level, behind)
  -- whatever comes behind the token
  pub same : (us : List Token) → run limit k (front ++ token ∷ us) ≡ too_deep (suc (length us))

deepens-step : (limit : ℕ) (t : Token) (ts : List Token) (k : List Open) (m : ℕ) (o : Step) → step k t ≡ o
    → go_on limit (suc (length ts)) o (λ k'. run limit k' ts) ≡ too_deep m
    → ((k' : List Open) → run limit k' ts ≡ too_deep m → Deepens limit k' ts m) → Deepens limit k (t ∷ ts) m
unfolding go_on run steps goes_to
deepens-step limit t ts k m None d e h = cc
deepens-step limit t ts k m (Some s) d e h = by_level (nat_lt limit s.0) refl e where
  by_level : (b : Bool) → nat_lt limit s.0 ≡ b → (if b then too_deep (suc (length ts)) else run limit s.1 ts) ≡ too_deep m → Deepens limit k (t ∷ ts) m
  by_level true w q = record {
    front = [];
    token = t;
    back = ts;
    parts = refl;
    left = cc;
    last = k;
    before = refl;
    level = s.0;
    behind = s.1;
    begins = d;
    same = λ us. rw (d, w) refl;
  }
  by_level false w q = let r : Deepens limit s.1 ts m = h s.1 q in record {
    front = t ∷ r.front;
    token = r.token;
    back = r.back;
    parts = ap (λ us. t ∷ us) r.parts;
    left = r.left;
    last = r.last;
    before = rw d r.before;
    level = r.level;
    behind = r.behind;
    begins = r.begins;
    same = λ us. rw (d, w) (r.same us);
  }

pub deepens : (limit : ℕ) (ts : List Token) (k : List Open) (m : ℕ) → run limit k ts ≡ too_deep m → Deepens limit k ts m
unfolding run end_of_tokens
deepens limit [] k m e = not_deep (is_done k) e where
  not_deep : (b : Bool) → end_of_tokens b ≡ too_deep m → Deepens limit k [] m
  not_deep true q = cc
  not_deep false q = cc
deepens limit (t ∷ ts) k m e = deepens-step limit t ts k m (step k t) refl e (λ k' e'. deepens limit ts k' m e')
