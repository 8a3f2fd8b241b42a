-- Laws of the mount that wins: what a path that is a name says, and what one that is none says.
-- Assumes nothing.
use Prim.Native.Nat.{ℕ, zero, suc, ◌-◌, ◌≤◌, ◌<◌}
use Prim.{absurd}
use mathlib.Core.Path.{◌≡◌, refl, sym, ap, ◌∙◌}
use mathlib.Core.Bool.{Bool, true, false, false≢true, cond, ◌&&◌, ◌||◌}
use mathlib.Core.List.{List, [], ◌∷◌, ◌++◌}
use Rattle.std.proofs.Common.{Option, None, Some}
use native.Mathlib.Nat.{le_refl, le_trans}
use native.Mathlib.Omega.{arith}
use lib.Dec.{eqb, leb}
use lib.ListN.{length, take, drop, get_or, length-append}
use lib.Seq.{take-suc}
use borrow.Author.Tests.{eq-eqb, ne_eqb, eqb-true, eqb-false, le-leb, lt-leb, leb-true, leb-false}
use Rattle.octets.specs.Compare.{same_bytes}
use Rattle.octets.specs.Lists.{All, no_more, ◌&◌}
use Rattle.octets.proofs.Alls.{all-implies}
use Rattle.octets.proofs.Bools.{and_left, and_right, and-false}
use Rattle.octets.proofs.Compares.{same_true}
use Rattle.octets.specs.Scan.{count}
use Rattle.mounts.specs.Mounts.{Mount, begins, fits, longer, mount_of}
use Rattle.mounts.specs.Search.{before_slash, shortened, mount_named, or_shorter, tried_in, tried}
use Rattle.mounts.specs.Claims.{here, later, Longest, MountIsLongest, LongestWins, RouteIsPath}

-- Bytes that begin with others.

begins-length : (p s : List ℕ) → begins p s ≡ true → length p ≤ length s
unfolding begins
begins-length [] s e = omega arith
begins-length (b ∷ p) [] e = absurd (let z : ◌≡◌ {A = ℕ} 0 1 = cc in omega arith)
begins-length (b ∷ p) (c ∷ s) e = omega (arith, begins-length p s (and_right (eqb b c) (begins p s) e))

begins-front : (p q s : List ℕ) → begins (p ++ q) s ≡ true → p ++ drop (length p) s ≡ s
unfolding begins
begins-front [] q s e = refl
begins-front (b ∷ p) q [] e = cc
begins-front (b ∷ p) q (c ∷ s) e =
    let h : b ≡ c = eqb-true b c (and_left (eqb b c) (begins (p ++ q) s) e) in
    cc (h, begins-front p q s (and_right (eqb b c) (begins (p ++ q) s) e))

append-nil : (s : List ℕ) → s ++ drop (length s) s ≡ s
append-nil [] = refl
append-nil (b ∷ s) = ap (◌∷◌ b) (append-nil s)

fits-front : (name path : List ℕ) → fits name path ≡ true → name ++ drop (length name) path ≡ path
fits-front name path e = by (same_bytes name path) refl e
  where
    by : (t : Bool) → same_bytes name path ≡ t → t || begins (name ++ 47 ∷ []) path ≡ true → name ++ drop (length name) path ≡ path
    by true q f =
        let z : name ≡ path = same_true name path q in
        rw z (append-nil path)
    by false q f = begins-front name (47 ∷ []) path f

fits-length : (name path : List ℕ) → fits name path ≡ true → length name ≤ length path
fits-length name path e = omega (arith, length-append name (drop (length name) path), ap length (fits-front name path e))

-- Of the mount that wins.

-- what is true of each mount that fits is true of the one that wins
won :
    (P : Mount → Type 0) (path : List ℕ) → ((m : Mount) → fits m.name path ≡ true → P m) → (ms : List Mount) (o : Mount)
    → mount_of ms path ≡ Some o → P o
unfolding mount_of
won P path f [] o e = absurd (let z : ◌≡◌ {A = ℕ} 0 1 = cc in omega arith)
won P path f (m ∷ ms) o e = by (fits m.name path) refl (mount_of ms path) e (won P path f ms o)
  where
    is : (a : Mount) → P a → Some a ≡ Some o → P o
    is a p q =
        let z : a ≡ o = cc in
        rw (← z) p

    longest : (g : Mount) (u : Bool) → P m → (Some g ≡ Some o → P o) → cond u (Some m) (Some g) ≡ Some o → P o
    longest g true p q r = is m p r
    longest g false p q r = q r

    by :
        (t : Bool) → fits m.name path ≡ t → (w : Option Mount) → cond t (longer m w) w ≡ Some o → (w ≡ Some o → P o) → P o
    by true q None r ih = is m (f m q) r
    by true q (Some g) r ih = longest g (leb (length g.name) (length m.name)) (f m q) ih r
    by false q w r ih = ih r

pub route-is-path : RouteIsPath
route-is-path ms path m e = won (λ o. o.name ++ drop (length o.name) path ≡ path) path (λ o f. fits-front o.name path f) ms m e

not-longer : (ms : List Mount) (path : List ℕ) (o : Mount) → mount_of ms path ≡ Some o → length o.name ≤ length path
not-longer ms path o e = won (λ m. length m.name ≤ length path) path (λ m f. fits-length m.name path f) ms o e

-- A path that is a mount's name.

module _ (path : List ℕ) where
  -- a mount with the path as its name
  named-so : (ms : List Mount) (o : Mount) → mount_named path ms ≡ Some o → o.name ≡ path
  unfolding mount_named
  named-so [] o e = cc
  named-so (m ∷ ms) o e = by (same_bytes m.name path) refl e (named-so ms o)
    where
      by :
          (t : Bool) → same_bytes m.name path ≡ t → cond t (Some m) (mount_named path ms) ≡ Some o → (mount_named path ms ≡ Some o → o.name ≡ path)
          → o.name ≡ path
      by true q f ih =
          let z : m ≡ o = cc in
          ap (λ (x : Mount). x.name) (sym z) ∙ same_true m.name path q
      by false q f ih = ih f

  -- before mounts among which one has the path as its name
  shorter-loses : (m o : Mount) → o.name ≡ path → (t : Bool) → begins (m.name ++ 47 ∷ []) path ≡ t → cond t (longer m (Some o)) (Some o) ≡ Some o
  shorter-loses m o e true q =
      let l : length m.name < length o.name = omega (arith, begins-length (m.name ++ 47 ∷ []) path q, length-append m.name (47 ∷ []), ap length e) in
      rw (lt-leb (length o.name) (length m.name) l)
  shorter-loses m o e false q = refl

  longest-first : (m : Mount) (o : Option Mount) → ((g : Mount) → o ≡ Some g → length g.name ≤ length m.name) → longer m o ≡ Some m
  longest-first m None h = refl
  longest-first m (Some g) h = rw (le-leb (length g.name) (length m.name) (h g refl))

  pub path-named : (ms : List Mount) (o : Mount) → mount_named path ms ≡ Some o → mount_of ms path ≡ Some o
  unfolding mount_of mount_named
  path-named [] o e = cc
  path-named (m ∷ ms) o e = by (same_bytes m.name path) refl e (path-named ms o) (named-so ms o)
    where
      by :
          (t : Bool) → same_bytes m.name path ≡ t → cond t (Some m) (mount_named path ms) ≡ Some o
          → (mount_named path ms ≡ Some o → mount_of ms path ≡ Some o) → (mount_named path ms ≡ Some o → o.name ≡ path)
          → cond (t || begins (m.name ++ 47 ∷ []) path) (longer m (mount_of ms path)) (mount_of ms path) ≡ Some o
      by true q f ih n =
          let z : m.name ≡ path = same_true m.name path q in
          longest-first m (mount_of ms path) (λ g h. rw z (not-longer ms path g h)) ∙ f
      by false q f ih n = rw (ih f) (shorter-loses m o (n f) (begins (m.name ++ 47 ∷ []) path) refl)

-- A path that is no mount's name.

-- what a name says of the path without its last segment, if there is one
abbrev fits_in : List ℕ → Option (List ℕ) → Bool
fits_in name None = false
fits_in name (Some t) = fits name t

both_first : (t a b : Bool) → t && (a || b) ≡ (t && a) || (t && b)
both_first true a b = refl
both_first false a b = refl

slash-either : (b : ℕ) → eqb 47 b ≡ eqb b 47
slash-either b = by (eqb b 47) refl
  where
    by : (t : Bool) → eqb b 47 ≡ t → eqb 47 b ≡ t
    by true q = eq-eqb 47 b (sym (eqb-true b 47 q))
    by false q = ne_eqb 47 b (λ e. eqb-false b 47 q (sym e))

-- a path that begins with a name and a slash is one whose last segment can go
begins-shortened : (name path : List ℕ) → begins (name ++ 47 ∷ []) path ≡ fits_in name (shortened path)
unfolding begins shortened same_bytes
begins-shortened [] [] = refl
begins-shortened [] (b ∷ s) = rw (slash-either b) (by (shortened s) (eqb b 47) refl)
  where
    by : (o : Option (List ℕ)) (t : Bool) → eqb b 47 ≡ t → eqb b 47 && true ≡ fits_in [] (before_slash b o)
    by (Some t) u q = rw (slash-either b)
    by None true q = simp q
    by None false q = simp q
begins-shortened (c ∷ name) [] = refl
begins-shortened (c ∷ name) (b ∷ s) = by (shortened s) (begins-shortened name s)
  where
    none_left : (t : Bool) → fits_in (c ∷ name) (cond {A = Option (List ℕ)} t (Some []) None) ≡ false
    none_left true = refl
    none_left false = refl

    by : (o : Option (List ℕ)) → begins (name ++ 47 ∷ []) s ≡ fits_in name o → eqb c b && begins (name ++ 47 ∷ []) s ≡ fits_in (c ∷ name) (before_slash b o)
    by None e = rw e (and-false (eqb c b) ∙ sym (none_left (eqb b 47)))
    by (Some t) e = rw e (both_first (eqb c b) (same_bytes name t) (begins (name ++ 47 ∷ []) t))

-- no mount has the path as its name
module _ (path : List ℕ) where
  pub last-segment : (ms : List Mount) (t : List ℕ) → mount_named path ms ≡ None → shortened path ≡ Some t → mount_of ms path ≡ mount_of ms t
  unfolding mount_of mount_named
  last-segment [] t e h = refl
  last-segment (m ∷ ms) t e h = by (same_bytes m.name path) e (last-segment ms t)
    where
      by :
          (q : Bool) → cond q (Some m) (mount_named path ms) ≡ None
          → (mount_named path ms ≡ None → shortened path ≡ Some t → mount_of ms path ≡ mount_of ms t)
          → cond (q || begins (m.name ++ 47 ∷ []) path) (longer m (mount_of ms path)) (mount_of ms path)
          ≡ cond (fits m.name t) (longer m (mount_of ms t)) (mount_of ms t)
      by true f ih = cc
      by false f ih = rw (begins-shortened m.name path ∙ ap (fits_in m.name) h, ih f h)

  pub no-segment : (ms : List Mount) → mount_named path ms ≡ None → shortened path ≡ None → mount_of ms path ≡ None
  unfolding mount_of mount_named
  no-segment [] e h = refl
  no-segment (m ∷ ms) e h = by (same_bytes m.name path) e (no-segment ms)
    where
      by :
          (q : Bool) → cond q (Some m) (mount_named path ms) ≡ None
          → (mount_named path ms ≡ None → shortened path ≡ None → mount_of ms path ≡ None)
          → cond (q || begins (m.name ++ 47 ∷ []) path) (longer m (mount_of ms path)) (mount_of ms path) ≡ None
      by true f ih = cc
      by false f ih = rw (begins-shortened m.name path ∙ ap (fits_in m.name) h, ih f h)

-- The path without its last segment.

before-shorter : (b : ℕ) (n : ℕ) (o : Option (List ℕ)) (t : List ℕ) → ((u : List ℕ) → o ≡ Some u → length u < n) → before_slash b o ≡ Some t → length t < suc n
before-shorter b n (Some u) t h e =
    let z : b ∷ u ≡ t = cc in
    omega (arith, ap length z, h u refl)
before-shorter b n None t h e = by (eqb b 47) e
  where
    by : (q : Bool) → cond {A = Option (List ℕ)} q (Some []) None ≡ Some t → length t < suc n
    by true f =
        let z : [] ≡ t = cc in
        omega (arith, ap length z)
    by false f = absurd (let z : ◌≡◌ {A = ℕ} 0 1 = cc in omega arith)

pub shortened-shorter : (s t : List ℕ) → shortened s ≡ Some t → length t < length s
unfolding shortened
shortened-shorter [] t e = absurd (let z : ◌≡◌ {A = ℕ} 0 1 = cc in omega arith)
shortened-shorter (b ∷ s) t e = before-shorter b (length s) (shortened s) t (λ u. shortened-shorter s u) e

-- the last slash, by what stands there and behind it

pub no-slash : (s : List ℕ) → ((k : ℕ) → k < length s → get_or s k 0 ≡ 47 → ⊥) → shortened s ≡ None
unfolding shortened
no-slash [] h = refl
no-slash (b ∷ s) h =
    rw (no-slash s (λ k l. h (suc k) (omega arith)), ne_eqb b 47 (h 0 (omega arith)))

pub last-slash : (s : List ℕ) (k : ℕ) → k < length s → get_or s k 0 ≡ 47 → ((j : ℕ) → k < j → j < length s → get_or s j 0 ≡ 47 → ⊥) → shortened s ≡ Some (take k s)
unfolding shortened
last-slash [] k l e h = absurd (omega arith)
last-slash (b ∷ s) zero l e h = rw (no-slash s (λ k m. h (suc k) (omega arith) (omega arith)), eq-eqb b 47 e)
last-slash (b ∷ s) (suc k) l e h = rw (last-slash s k (omega arith) e (λ j m n. h (suc j) (omega arith) (omega arith)))

last_byte : (s : List ℕ) (b : ℕ) → shortened (s ++ b ∷ []) ≡ cond (eqb b 47) (Some s) (shortened s)
unfolding shortened
last_byte [] b = refl
last_byte (a ∷ s) b = ap (before_slash a) (last_byte s b) ∙ by (eqb b 47)
  where
    by : (t : Bool) → before_slash a (cond t (Some s) (shortened s)) ≡ cond t (Some (a ∷ s)) (before_slash a (shortened s))
    by true = refl
    by false = refl

-- .. going back byte by byte, from n bytes
module _ (s : List ℕ) (n : ℕ) (p : 0 < n) (h : n ≤ length s) where
  back_one : shortened (take n s) ≡ cond (eqb (get_or s (n - 1) 0) 47) (Some (take (n - 1) s)) (shortened (take (n - 1) s))
  back_one =
      let e : n ≡ suc (n - 1) = omega arith in
      ap (λ (k : ℕ). shortened (take k s)) e ∙ rw (take-suc s (n - 1) 0 (omega arith)) (last_byte (take (n - 1) s) (get_or s (n - 1) 0))

  pub at-slash : get_or s (n - 1) 0 ≡ 47 → shortened (take n s) ≡ Some (take (n - 1) s)
  at-slash e = back_one ∙ rw (eq-eqb (get_or s (n - 1) 0) 47 e)

  pub no_slash : (get_or s (n - 1) 0 ≡ 47 → ⊥) → shortened (take n s) ≡ shortened (take (n - 1) s)
  no_slash e = back_one ∙ rw (ne_eqb (get_or s (n - 1) 0) 47 e)

-- a slash less

before-counts : (b n : ℕ) (o : Option (List ℕ)) (t : List ℕ) → ((u : List ℕ) → o ≡ Some u → n ≡ suc (count 47 u)) → (o ≡ None → n ≡ 0) → before_slash b o ≡ Some t → cond (eqb b 47) (suc n) n ≡ suc (count 47 t)
unfolding count
before-counts b n (Some u) t h g e =
    let z : b ∷ u ≡ t = cc in
    rw (← z) (by (eqb b 47) (h u refl))
  where
    by : (q : Bool) → n ≡ suc (count 47 u) → cond q (suc n) n ≡ suc (cond q (suc (count 47 u)) (count 47 u))
    by true k = ap suc k
    by false k = k
before-counts b n None t h g e = by (eqb b 47) e
  where
    by : (q : Bool) → cond {A = Option (List ℕ)} q (Some []) None ≡ Some t → cond q (suc n) n ≡ suc (count 47 t)
    by true f =
        let z : [] ≡ t = cc in
        rw (← z) (ap suc (g refl))
    by false f = cc

before-none : (b n : ℕ) (o : Option (List ℕ)) → (o ≡ None → n ≡ 0) → before_slash b o ≡ None → cond (eqb b 47) (suc n) n ≡ 0
before-none b n (Some u) g e = cc
before-none b n None g e = by (eqb b 47) e
  where
    by : (q : Bool) → cond {A = Option (List ℕ)} q (Some []) None ≡ None → cond q (suc n) n ≡ 0
    by true f = cc
    by false f = g refl

no-slash-counts : (s : List ℕ) → shortened s ≡ None → count 47 s ≡ 0
unfolding shortened count
no-slash-counts [] e = refl
no-slash-counts (b ∷ s) e = before-none b (count 47 s) (shortened s) (no-slash-counts s) e

pub shortened-counts : (s t : List ℕ) → shortened s ≡ Some t → count 47 s ≡ suc (count 47 t)
unfolding shortened count
shortened-counts [] t e = cc
shortened-counts (b ∷ s) t e = before-counts b (count 47 s) (shortened s) t (λ u. shortened-counts s u) (no-slash-counts s) e

-- Trying path after path.

module _ (ms : List Mount) (path : List ℕ) where
  pub tried_here : (m : Mount) → mount_named path ms ≡ Some m → tried ms path ≡ Some m
  unfolding tried_in
  tried_here m e = rw e

  pub tried-last : mount_named path ms ≡ None → shortened path ≡ None → tried ms path ≡ None
  unfolding tried_in
  tried-last e s = rw (e, s)

  pub tried-on : (t : List ℕ) → mount_named path ms ≡ None → shortened path ≡ Some t → tried ms path ≡ tried ms t
  unfolding tried_in
  tried-on t e s = rw (e, s) (ap (λ (n : ℕ). tried_in n ms t) (shortened-counts path t s))

tried-enough : (n : ℕ) (ms : List Mount) (path : List ℕ) → count 47 path < n → tried_in n ms path ≡ mount_of ms path
unfolding tried_in
tried-enough zero ms path h = absurd (omega arith)
tried-enough (suc n) ms path h = by (mount_named path ms) (shortened path) refl refl (tried-enough n ms)
  where
    by :
        (v : Option Mount) (o : Option (List ℕ)) → mount_named path ms ≡ v → shortened path ≡ o
        → ((t : List ℕ) → count 47 t < n → tried_in n ms t ≡ mount_of ms t)
        → or_shorter v (tried_in n ms) o ≡ mount_of ms path
    by (Some m) o e f ih = sym (path-named path ms m e)
    by None None e f ih = sym (no-segment path ms e f)
    by None (Some t) e f ih = ih t (omega (arith, shortened-counts path t f)) ∙ sym (last-segment path ms t e f)

pub longest-wins : LongestWins
longest-wins ms path = tried-enough (suc (count 47 path)) ms path (omega arith)

-- The mount that wins is the longest that fits.

module _ (path : List ℕ) where
  pub none_fits : (ms : List Mount) → mount_of ms path ≡ None → All (λ o. fits o.name path ≡ false) ms
  unfolding mount_of
  none_fits [] e = no_more
  none_fits (m ∷ ms) e = by (fits m.name path) refl (mount_of ms path) e (none_fits ms)
    where
      never : (g : Mount) (u : Bool) → cond u (Some m) (Some g) ≡ None → ⊥
      never g true r = let z : ◌≡◌ {A = ℕ} 0 1 = cc in omega arith
      never g false r = let z : ◌≡◌ {A = ℕ} 0 1 = cc in omega arith

      by :
          (t : Bool) → fits m.name path ≡ t → (w : Option Mount) → cond t (longer m w) w ≡ None
          → (w ≡ None → All (λ o. fits o.name path ≡ false) ms) → All (λ o. fits o.name path ≡ false) (m ∷ ms)
      by true q None r ih = absurd (never m true r)
      by true q (Some g) r ih = absurd (never g (leb (length g.name) (length m.name)) r)
      by false q w r ih = q & ih r

  pub wins : (ms : List Mount) (m : Mount) → mount_of ms path ≡ Some m → Longest ms path m
  unfolding mount_of
  wins [] m e = absurd (let z : ◌≡◌ {A = ℕ} 0 1 = cc in omega arith)
  wins (h ∷ ms) m e = by (fits h.name path) refl (mount_of ms path) refl e (wins ms)
    where
      pick :
          (g : Mount) (u : Bool) → leb (length g.name) (length h.name) ≡ u → fits h.name path ≡ true → cond u (Some h) (Some g) ≡ Some m
          → Longest ms path g → Longest (h ∷ ms) path m
      pick g true u q r l =
          let z : h ≡ m = cc in
          let s : length g.name ≤ length h.name = leb-true (length g.name) (length h.name) u in
          rw (← z)
          (record { among = here; it_fits = q; longest = (λ f. le_refl (length h.name)) & all-implies (λ o n f. le_trans (n f) s) l.longest })
      pick g false u q r l =
          let z : g ≡ m = cc in
          let s : length h.name < length g.name = leb-false (length g.name) (length h.name) u in
          let t : length h.name ≤ length g.name = omega arith in
          rw (← z) (record { among = later l.among; it_fits = l.it_fits; longest = (λ f. t) & l.longest })

      by :
          (t : Bool) → fits h.name path ≡ t → (w : Option Mount) → mount_of ms path ≡ w → cond t (longer h w) w ≡ Some m
          → ((o : Mount) → w ≡ Some o → Longest ms path o) → Longest (h ∷ ms) path m
      by true q None p r ih =
          let z : h ≡ m = cc in
          rw (← z)
          (record {
            among = here;
            it_fits = q;
            longest = (λ f. le_refl (length h.name)) & all-implies (λ o n f. absurd (false≢true (sym n ∙ f))) (none_fits ms p);
          })
      by true q (Some g) p r ih = pick g (leb (length g.name) (length h.name)) refl q r (ih g refl)
      by false q w p r ih =
          let l = ih m r in
          record { among = later l.among; it_fits = l.it_fits; longest = (λ f. absurd (false≢true (sym q ∙ f))) & l.longest }

pub mount-is-longest : MountIsLongest
mount-is-longest = record { wins = λ ms path m e. wins path ms m e; none_fits = λ ms path e. none_fits path ms e }
