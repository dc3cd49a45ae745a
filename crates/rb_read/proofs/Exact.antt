-- The places of faults, from what holds of the reader of a file's items.
use Rattle.std.proofs.Common.{◌≡◌, ◌≢◌, ◌⊎◌, inl, inr, ℕ, zero, suc, ◌+◌, ◌-◌, ◌<◌, ◌≤◌, List, [], ◌∷◌, ◌++◌, map, length, take, Bool, true, false, nat_lt, if◌then◌else◌, Some, None, Result, Ok, Err, IfOk, refl, sym, ◌∙◌, ap, subst, arith, append_assoc, length-append}
use Rattle.std.proofs.lemmas.Grind.{common_steps}
use Rattle.rb_core.specs.Limits.{most_levels}
use Rattle.rb_syntax.specs.declared.token.Token.{Token}
use Rattle.rb_syntax.specs.declared.tree.ItemTree.{ItemTree}
use Rattle.rb_syntax.specs.declared.tree.FileTree.{FileTree}
use Rattle.rb_syntax.specs.Written.{Written, token, number, node, flaw, tokens_in, AreWithin, HasNode, each}
use Rattle.rb_syntax.specs.Spelling.{item_written, file_written, IsTreeOf}
use Rattle.rb_read.specs.inner.Combining.{Fault, stuck, deep, ReadOutcome, Reader}
use Rattle.rb_read.proofs.Open.{Open, step, is_done, End, whole, stopped, too_deep, end_of_tokens, go_on, run, start}
use Rattle.rb_read.specs.Exact.{IsSpelled, StopsAt, IsTooDeepAt, IsNowhereTooDeep, IsFirstTooDeep}
use Rattle.rb_read.specs.inner.Ending.{IsPrefix, finished_file, whole_file}
use Rattle.rb_read.proofs.Forms.{goes, Spells, Took, over, Again, fits, exceeds, IsForm}
use Rattle.rb_read.proofs.Steps.{goes_to, steps, steps-append, SomeWhole, some-whole, not_whole, Stops, stops, Deepens, deepens}
use Rattle.rb_read.proofs.Completing.{start-fits, completion, Ends, completes, steps-fits}
use Rattle.rb_read.proofs.Climbing.{file-climbs}
use Rattle.rb_read.proofs.Numbering.{renumbered}

-- Limits and what is written.

within-over : (limit : ℕ) (ws : List Written) → AreWithin limit ws → over limit ws ≡ None
within-over limit [] h = refl
within-over limit (token t ∷ ws) h = within-over limit ws h
within-over limit (number at ∷ ws) h = within-over limit ws h
within-over limit (node l ∷ ws) h = let d : nat_lt limit l ≡ false = grind (arith, common_steps, h.0) in rw d (within-over limit ws h.1)
within-over limit (flaw ∷ ws) h = within-over limit ws h

within-more : (limit more : ℕ) (ws : List Written) → limit ≤ more → AreWithin limit ws → AreWithin more ws
within-more limit more [] l h = tt
within-more limit more (token t ∷ ws) l h = within-more limit more ws l h
within-more limit more (number at ∷ ws) l h = within-more limit more ws l h
within-more limit more (node k ∷ ws) l h = (omega (arith, h.0), within-more limit more ws l h.1)
within-more limit more (flaw ∷ ws) l h = within-more limit more ws l h

within-some : (ws : List Written) → (limit : ℕ) × AreWithin limit ws
within-some [] = (0, tt)
within-some (token t ∷ ws) = within-some ws
within-some (number at ∷ ws) = within-some ws
within-some (node l ∷ ws) = let w = within-some ws in (l + w.0, (omega arith, within-more w.0 (l + w.0) ws (omega arith) w.1))
within-some (flaw ∷ ws) = within-some ws

-- A node stands behind the tokens before what is written.
node-behind : (total level at : ℕ) (ws : List Written) → HasNode total level at ws → total - length (tokens_in ws) ≤ at
node-behind total level at [] h = absurd h
node-behind total level at (token t ∷ ws) h = let p = node-behind total level at ws h in omega arith
node-behind total level at (number n ∷ ws) h = node-behind total level at ws h
node-behind total level at (node l ∷ ws) (inl h) = omega (arith, h.1)
node-behind total level at (node l ∷ ws) (inr h) = node-behind total level at ws h
node-behind total level at (flaw ∷ ws) h = node-behind total level at ws h

-- the first node beyond the limit, no later than some place
abbrev OverBy : (total limit at : ℕ) → List Written → Type 0
OverBy total limit at ws = (m : ℕ) × (over limit ws ≡ Some m) × (total - m ≤ at)

node-over : (total limit at : ℕ) (ws : List Written) → HasNode total (suc limit) at ws → OverBy total limit at ws
node-over total limit at [] h = absurd h
node-over total limit at (token t ∷ ws) h = node-over total limit at ws h
node-over total limit at (number n ∷ ws) h = node-over total limit at ws h
node-over total limit at (node l ∷ ws) h = by_level (nat_lt limit l) refl (λ w. node-over total limit at ws w) where
  by_level : (b : Bool) → nat_lt limit l ≡ b → (HasNode total (suc limit) at ws → OverBy total limit at ws)
      → (m : ℕ) × ((if b then Some (length (tokens_in ws)) else over limit ws) ≡ Some m) × (total - m ≤ at)
  by_level true e later = (length (tokens_in ws), refl, node-behind total (suc limit) at (node l ∷ ws) h)
  by_level false e later = by_place h where
    by_place : ((l ≡ suc limit) × (at ≡ total - length (tokens_in ws))) ⊎ HasNode total (suc limit) at ws → OverBy total limit at ws
    by_place (inl w) = let d : nat_lt limit l ≡ true = grind (arith, common_steps, w.0) in cc
    by_place (inr w) = later w
node-over total limit at (flaw ∷ ws) h = node-over total limit at ws h

-- First tokens.

take-front : (front back : List Token) → take (length front) (front ++ back) ≡ front
take-front [] back = refl
take-front (t ∷ ts) back = ap (λ us. t ∷ us) (take-front ts back)

take-front-one : (front : List Token) (t : Token) (back : List Token) → take (suc (length front)) (front ++ t ∷ back) ≡ front ++ t ∷ []
take-front-one [] t back = refl
take-front-one (u ∷ us) t back = ap (λ ts. u ∷ ts) (take-front-one us t back)

-- Where the first n tokens go on otherwise, what is shorter than they are is in both.
shared : (front : List Token) (t : Token) (n : ℕ) (ts more back : List Token) → length front < n → n ≤ length ts → take n ts ++ more ≡ front ++ t ∷ back
    → (us : List Token) × (ts ≡ front ++ t ∷ us)
shared front t zero ts more back l k e = absurd (omega arith)
shared front t (suc n) [] more back l k e = absurd (omega arith)
shared [] t (suc n) (u ∷ us) more back l k e = let q : u ≡ t = cc in (us, ap (λ v. v ∷ us) q)
shared (f ∷ front) t (suc n) (u ∷ us) more back l k e =
    let q : u ≡ f = cc in let e' : take n us ++ more ≡ front ++ t ∷ back = cc in
    let r = shared front t n us more back (omega arith) (omega arith) e' in (r.0, ap (λ v. v ∷ us) q ∙ ap (λ vs. f ∷ vs) r.1)

-- The end of a file's reading.

end_of : Result FileTree Fault → End
end_of (Ok file) = whole
end_of (Err (stuck m)) = stopped m
end_of (Err (deep m)) = too_deep m

ended-goes : (limit : ℕ) (items : List ItemTree) (rest : List Token) → run limit [] rest ≡ end_of (finished_file items rest)
unfolding run step go_on finished_file is_done end_of_tokens end_of
ended-goes limit items [] = refl
ended-goes limit items (u ∷ us) = refl

whole_file-goes : (limit : ℕ) (r : ReadOutcome (List ItemTree)) → goes limit [] r ≡ end_of (whole_file r)
unfolding whole_file end_of
whole_file-goes limit (Ok x) = ended-goes limit x.0 x.1
whole_file-goes limit (Err (stuck m)) = refl
whole_file-goes limit (Err (deep m)) = refl

taken : (total limit : ℕ) (ts : List Token) (r : ReadOutcome (List ItemTree)) (file : FileTree)
    → IfOk r (λ x. Took total limit ts (each (map item_written x.0)) x.1) → whole_file r ≡ Ok file → Spells total limit ts (file_written file)
unfolding whole_file finished_file
taken total limit ts (Ok x) file h e = at_rest x.0 x.1 h e where
  at_rest : (items : List ItemTree) (rest : List Token) → Took total limit ts (each (map item_written items)) rest → finished_file items rest ≡ Ok file
      → Spells total limit ts (file_written file)
  at_rest items [] t q =
      let f : record { items = items } ≡ file = cc in
      subst (λ (g : FileTree). Spells total limit ts (file_written g)) f (t [] (record { spells = refl; formed = tt; numbered = tt; small = tt }))
  at_rest items (u ∷ us) t q = cc
taken total limit ts (Err f) file h e = cc

-- Over the reader of the items.

module _ (bars : Token → Bool) (reader : (total limit : ℕ) → Reader (List ItemTree))
    (form : (total limit : ℕ) → IsForm total limit bars start (λ items. each (map item_written items)) (reader total limit)) where
  abbrev pub file_of : (total limit : ℕ) → List Token → Result FileTree Fault
  file_of total limit ts = whole_file (reader total limit ts)

  run-file : (total limit : ℕ) (ts : List Token) → run limit start ts ≡ end_of (file_of total limit ts)
  run-file total limit ts = (form total limit).follows ts [] ∙ whole_file-goes limit (reader total limit ts)

  pub file-spells : (total limit : ℕ) (ts : List Token) (file : FileTree) → file_of total limit ts ≡ Ok file → Spells total limit ts (file_written file)
  file-spells total limit ts file e = taken total limit ts (reader total limit ts) file ((form total limit).takes ts) e

  again : (limit : ℕ) (ts : List Token) (file : FileTree) → IsTreeOf ts file
      → Again (length ts) limit (reader (length ts) limit) file.items (file_written file) []
  again limit ts file h = (form (length ts) limit).again file.items [] (h.formed, h.numbered) tt

  pub file-again : (limit : ℕ) (ts : List Token) (file : FileTree) → IsTreeOf ts file → AreWithin limit (file_written file) → file_of (length ts) limit ts ≡ Ok file
  unfolding whole_file finished_file
  file-again limit ts file h w = by_again (again limit ts file h) where
    by_again : Again (length ts) limit (reader (length ts) limit) file.items (file_written file) [] → file_of (length ts) limit ts ≡ Ok file
    by_again (fits o r q) = let e : reader (length ts) limit ts ≡ Ok (file.items, []) = subst (λ us. reader (length ts) limit us ≡ Ok (file.items, [])) h.spells r in rw e refl
    by_again (exceeds m o r) = let d : over limit (file_written file) ≡ None = within-over limit (file_written file) w in cc

  spelled-whole : (ts : List Token) → IsSpelled ts → SomeWhole start ts
  unfolding end_of
  spelled-whole ts s =
      let r = renumbered ts s.0 s.1 s.2 in
      let w = within-some (file_written r.0) in
      (w.0, run-file (length ts) w.0 ts ∙ ap end_of (file-again w.0 ts r.0 r.1 w.1))

  whole-spelled : (limit : ℕ) (ts : List Token) → run limit start ts ≡ whole → IsSpelled ts
  unfolding end_of
  whole-spelled limit ts e = by_file (file_of (length ts) limit ts) refl (sym (run-file (length ts) limit ts) ∙ e) where
    by_file : (r : Result FileTree Fault) → file_of (length ts) limit ts ≡ r → end_of r ≡ whole → IsSpelled ts
    by_file (Ok file) q w = let s = file-spells (length ts) limit ts file q in (file, s.spells, s.formed)
    by_file (Err (stuck m)) q w = cc
    by_file (Err (deep m)) q w = cc

  prefix-open : (front : List Token) (last : List Open) → steps start front ≡ Some last → IsPrefix front
  prefix-open front last e =
      let c : Ends last (completion last) = completes last (steps-fits front start last start-fits e) in
      let ts = front ++ completion last in
      let w = some-whole ts start c.last (steps-append front (completion last) start last c.last e c.reached) c.done in
      (completion last, whole-spelled w.0 ts w.1)

  -- Where the run of open symbols stops, no file goes on.
  stops-parts : (front back : List Token) (last : List Open) → steps start front ≡ Some last
      → ((t : Token) (us : List Token) → back ≡ t ∷ us → step last t ≡ None) → (back ≡ [] → is_done last ≡ false) → StopsAt (front ++ back) (length front)
  unfolding run go_on end_of_tokens
  stops-parts front [] last e here at_end = record {
    within = simp length-append (omega arith);
    before = rw take-front (prefix-open front last e);
    here = λ lt pre. let n : length (front ++ []) ≡ length front + 0 = length-append front [] in absurd (omega arith);
    at_end = λ q s. let w = spelled-whole (front ++ []) s in not_whole w.0 front [] start last e (λ r. let d = at_end refl in let v : end_of_tokens false ≡ whole = rw d at r in cc) w.1;
  }
  stops-parts front (t ∷ us) last e here at_end = record {
    within = simp length-append (omega arith);
    before = rw take-front (prefix-open front last e);
    here = λ lt pre. goes_on (rw take-front-one at pre);
    at_end = λ q s. let n : length (front ++ t ∷ us) ≡ length front + suc (length us) = length-append front (t ∷ us) in absurd (omega arith);
  } where
    goes_on : IsPrefix (front ++ t ∷ []) → ⊥
    goes_on pre =
        let s : IsSpelled (front ++ (t ∷ pre.0)) = rw append_assoc at pre.1 in
        let w = spelled-whole (front ++ (t ∷ pre.0)) s in
        not_whole w.0 front (t ∷ pre.0) start last e (λ r. let d = here t us refl in let v : stopped (suc (length pre.0)) ≡ whole = rw d at r in cc) w.1

  stops-at : (limit : ℕ) (ts : List Token) (m : ℕ) → run limit start ts ≡ stopped m → StopsAt ts (length ts - m)
  stops-at limit ts m e = let s : Stops start ts m = stops limit ts start m e in
      let n : length (s.front ++ s.back) ≡ length s.front + length s.back = length-append s.front s.back in
      let h : length ts ≡ length (s.front ++ s.back) = ap length s.parts in
      let l : length s.back ≡ m = s.left in
      let p : length s.front ≡ length ts - m = omega arith in
      let r : StopsAt (s.front ++ s.back) (length s.front) = stops-parts s.front s.back s.last s.before s.here s.at_end in
      subst (λ q. StopsAt ts q) p (subst (λ us. StopsAt us (length s.front)) (sym s.parts) r)

  -- The file of a prefix that is too deep has that node.
  node-of : (ts : List Token) (file : FileTree) (m : ℕ) → IsTreeOf ts file → run most_levels start ts ≡ too_deep m → HasNode (length ts) (suc most_levels) (length ts - m) (file_written file)
  unfolding run is_done end_of_tokens
  node-of ts file m h r = by_again (again most_levels ts file h) where
    at_end : (x : ReadOutcome (List ItemTree)) → reader (length ts) most_levels ts ≡ x → too_deep m ≡ goes most_levels [] x
    at_end x e = sym r ∙ (form (length ts) most_levels).follows ts [] ∙ ap (λ y. goes most_levels [] y) e

    by_again : Again (length ts) most_levels (reader (length ts) most_levels) file.items (file_written file) [] → HasNode (length ts) (suc most_levels) (length ts - m) (file_written file)
    by_again (fits o e q) =
        let w = at_end (Ok (file.items, [])) (subst (λ us. reader (length ts) most_levels us ≡ Ok (file.items, [])) h.spells e) in
        let v : run most_levels [] [] ≡ whole = refl in cc
    by_again (exceeds k o e) =
        let w : too_deep m ≡ too_deep k = at_end (Err (deep k)) (subst (λ us. reader (length ts) most_levels us ≡ Err (deep k)) h.spells e) in
        let q : k ≡ m = cc in
        subst (λ j. HasNode (length ts) (suc most_levels) (length ts - j) (file_written file)) q (file-climbs (length ts) most_levels file k o)

  deep-parts : (front : List Token) (t : Token) (back : List Token) (last : List Open) (level : ℕ) (behind : List Open)
      → steps start front ≡ Some last → step last t ≡ Some (level, behind)
      → ((us : List Token) → run most_levels start (front ++ t ∷ us) ≡ too_deep (suc (length us))) → IsTooDeepAt (front ++ t ∷ back) (length front)
  unfolding steps goes_to
  deep-parts front t back last level behind e b same =
      let one : steps last (t ∷ []) ≡ Some behind = rw b refl in
      let two : steps start (front ++ t ∷ []) ≡ Some behind = steps-append front (t ∷ []) start last behind e one in
      let pre : IsPrefix (front ++ t ∷ []) = prefix-open (front ++ t ∷ []) behind two in
      let all : List Token = (front ++ t ∷ []) ++ pre.0 in
      let r : run most_levels start all ≡ too_deep (suc (length pre.0)) = rw append_assoc (same pre.0) in
      let n : length all ≡ length (front ++ t ∷ []) + length pre.0 = length-append (front ++ t ∷ []) pre.0 in
      let k : length (front ++ t ∷ []) ≡ length front + 1 = length-append front (t ∷ []) in
      let p : length all - suc (length pre.0) ≡ length front = omega arith in
      let tree = renumbered all pre.1.0 pre.1.1 pre.1.2 in
      let d : HasNode (length all) (suc most_levels) (length front) (file_written tree.0) =
      subst (λ q. HasNode (length all) (suc most_levels) q (file_written tree.0)) p (node-of all tree.0 (suc (length pre.0)) tree.1 r) in
      record {
        within = simp length-append (omega arith);
        more = pre.0;
        file = tree.0;
        spells = rw take-front-one tree.1.spells;
        formed = tree.1.formed;
        deep = rw take-front-one d;
      }

  deep-at : (ts : List Token) (m : ℕ) → run most_levels start ts ≡ too_deep m → IsTooDeepAt ts (length ts - m)
  deep-at ts m e = let s : Deepens most_levels start ts m = deepens most_levels ts start m e in
      let n : length (s.front ++ s.token ∷ s.back) ≡ length s.front + suc (length s.back) = length-append s.front (s.token ∷ s.back) in
      let h : length ts ≡ length (s.front ++ s.token ∷ s.back) = ap length s.parts in
      let l : suc (length s.back) ≡ m = s.left in
      let p : length s.front ≡ length ts - m = omega arith in
      let r : IsTooDeepAt (s.front ++ s.token ∷ s.back) (length s.front) = deep-parts s.front s.token s.back s.last s.level s.behind s.before s.begins s.same in
      subst (λ q. IsTooDeepAt ts q) p (subst (λ us. IsTooDeepAt us (length s.front)) (sym s.parts) r)

  -- the run is too deep, at this place or before it
  abbrev DeepBy : List Token → ℕ → Type 0
  DeepBy ts q = (m : ℕ) × (run most_levels start ts ≡ too_deep m) × (length ts - m ≤ q)

  deep-run : (ts : List Token) (file : FileTree) (q : ℕ) → IsTreeOf ts file → HasNode (length ts) (suc most_levels) q (file_written file) → DeepBy ts q
  unfolding whole_file end_of
  deep-run ts file q h d = by_again (node-over (length ts) most_levels q (file_written file) d) (again most_levels ts file h) where
    by_again : OverBy (length ts) most_levels q (file_written file) → Again (length ts) most_levels (reader (length ts) most_levels) file.items (file_written file) [] → DeepBy ts q
    by_again w (fits o e r) = let g : Some w.0 ≡ None = sym w.1 ∙ o in cc
    by_again w (exceeds k o e) =
        let g : w.0 ≡ k = cc in
        let e' : reader (length ts) most_levels ts ≡ Err (deep w.0) = rw g (subst (λ us. reader (length ts) most_levels us ≡ Err (deep k)) h.spells e) in
        let f : file_of (length ts) most_levels ts ≡ Err (deep w.0) = rw e' refl in
        (w.0, run-file (length ts) most_levels ts ∙ ap end_of f, w.2)

  deep-front : (ts front us : List Token) (t : Token) (q : ℕ) → ts ≡ front ++ t ∷ us → length front ≤ q → run most_levels start (front ++ t ∷ us) ≡ too_deep (suc (length us)) → DeepBy ts q
  deep-front ts front us t q e l r =
      let n : length (front ++ t ∷ us) ≡ length front + suc (length us) = length-append front (t ∷ us) in
      let h : length ts ≡ length (front ++ t ∷ us) = ap length e in
      (suc (length us), rw e r, omega arith)

  deep-shared : (ts us : List Token) (q : ℕ) → q < length ts → DeepBy (take (suc q) ts ++ us) q → DeepBy ts q
  deep-shared ts us q l w =
      let s : Deepens most_levels start (take (suc q) ts ++ us) w.0 = deepens most_levels (take (suc q) ts ++ us) start w.0 w.1 in
      let n : length (s.front ++ s.token ∷ s.back) ≡ length s.front + suc (length s.back) = length-append s.front (s.token ∷ s.back) in
      let h : length (take (suc q) ts ++ us) ≡ length (s.front ++ s.token ∷ s.back) = ap length s.parts in
      let b : suc (length s.back) ≡ w.0 = s.left in
      let d : length (take (suc q) ts ++ us) - w.0 ≤ q = w.2 in
      let f : length s.front < suc q = omega arith in
      let v = shared s.front s.token (suc q) ts us s.back f (omega arith) s.parts in
      deep-front ts s.front v.0 s.token q v.1 (omega arith) (s.same v.0)

  deep-by : (ts : List Token) (q : ℕ) → IsTooDeepAt ts q → DeepBy ts q
  deep-by ts q d =
      let us : List Token = take (suc q) ts ++ d.more in
      let r = renumbered us d.file d.spells d.formed in deep-shared ts d.more q d.within (deep-run us r.0 q r.1 (r.2 (suc most_levels) q d.deep))

  nowhere : (ts : List Token) (e : End) → run most_levels start ts ≡ e → ((m : ℕ) → e ≢ too_deep m) → IsNowhereTooDeep ts
  nowhere ts e r h q d = let w = deep-by ts q d in h w.0 (sym r ∙ w.1)

  -- The four theorems.

  pub ok : (ts : List Token) (file : FileTree) → file_of (length ts) most_levels ts ≡ Ok file → IsTreeOf ts file × AreWithin most_levels (file_written file)
  ok ts file e = let s = file-spells (length ts) most_levels ts file e in (record { spells = s.spells; formed = s.formed; numbered = s.numbered }, s.small)

  pub ok-nowhere : (ts : List Token) (file : FileTree) → file_of (length ts) most_levels ts ≡ Ok file → IsNowhereTooDeep ts
  unfolding end_of
  ok-nowhere ts file e = nowhere ts whole (run-file (length ts) most_levels ts ∙ ap end_of e) (λ m q. cc)

  pub only : (ts : List Token) (file : FileTree) → IsTreeOf ts file → AreWithin most_levels (file_written file) → file_of (length ts) most_levels ts ≡ Ok file
  only ts file h w = file-again most_levels ts file h w

  pub is_stuck : (ts : List Token) (m : ℕ) → file_of (length ts) most_levels ts ≡ Err (stuck m) → StopsAt ts (length ts - m) × IsNowhereTooDeep ts
  unfolding end_of
  is_stuck ts m e = let r : run most_levels start ts ≡ stopped m = run-file (length ts) most_levels ts ∙ ap end_of e in (stops-at most_levels ts m r, nowhere ts (stopped m) r (λ k q. cc))

  pub is_deep : (ts : List Token) (m : ℕ) → file_of (length ts) most_levels ts ≡ Err (deep m) → IsFirstTooDeep ts (length ts - m)
  unfolding end_of
  is_deep ts m e = let r : run most_levels start ts ≡ too_deep m = run-file (length ts) most_levels ts ∙ ap end_of e in record {
    too_deep = deep-at ts m r;
    is_first = λ q d. let w = deep-by ts q d in let same : too_deep w.0 ≡ too_deep m = sym w.1 ∙ r in let k : w.0 ≡ m = cc in subst (λ j. length ts - j ≤ q) k w.2;
  }
