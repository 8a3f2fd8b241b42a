-- The headers of a block are exactly those that it was printed from.
-- Assumes nothing.
use Prim.Native.Nat.{ℕ, ◌+◌}
use Prim.{absurd}
use mathlib.Core.Path.{◌≡◌, refl, sym, ap, ◌∙◌}
use mathlib.Core.List.{List, [], ◌∷◌, ◌++◌}
use Rattle.std.proofs.Common.{Option, None, Some}
use native.Mathlib.Nat.{add_assoc}
use native.Mathlib.Omega.{arith}
use lib.ListN.{length, drop}
use lib.Seq.{drop-drop, drop-append-add}
use Rattle.octets.specs.Outcome.{gives}
use Rattle.octets.specs.Lists.{All, no_more, ◌&◌, NoNul}
use Rattle.octets.specs.Parts.{parted}
use Rattle.octets.proofs.Outcomes.{given-gives}
use Rattle.octets.proofs.Parting.{part-ended, joined_by, parts-of}
use Rattle.headers.specs.Block.{Header, printed, with, paired, headers_of, parsed, Proper}

-- a header is its name and its value
pub same-header : (h h' : Header) → h.name ≡ h'.name → h.value ≡ h'.value → h ≡ h'
same-header h h' n v =
    ap {B = Header} (λ (x : List ℕ). record { name = x; value = h.value }) n ∙ ap {B = Header} (λ (y : List ℕ). record { name = h'.name; value = y }) v

pub read-printed : (hs : List Header) → All Proper hs → headers_of (printed hs) ≡ Some hs
unfolding printed paired parted
read-printed [] p = refl
read-printed (h ∷ hs) (p & ps) =
    simp
    (part-ended 0 h.name (h.value ++ 0 ∷ printed hs) p.name_bytes, part-ended 0 h.value (printed hs) p.value_bytes, p.named, read-printed hs ps)

-- the headers hs print the bytes t
pub record Prints (hs : List Header) (t : List ℕ) : Type 0 where
  pub bytes : printed hs ≡ t
  pub proper : All Proper hs

print-with :
    (h : Header) (o : Option (List Header)) (hs : List Header) (t : List ℕ) → Proper h
    → ((hs' : List Header) → o ≡ Some hs' → Prints hs' t) → with h o ≡ Some hs → Prints hs (h.name ++ 0 ∷ (h.value ++ 0 ∷ t))
unfolding printed
print-with h None hs t p ih e = absurd (let z : ◌≡◌ {A = ℕ} 0 1 = cc in omega arith)
print-with h (Some hs') hs t p ih e =
    let z : hs ≡ h ∷ hs' = cc in
    let r = ih hs' refl in
    rw z (record { bytes = rw r.bytes; proper = p & r.proper })

print-paired :
    (f : List ℕ) (fs : List (List ℕ)) (hs : List Header) → NoNul f → All NoNul fs → paired f fs ≡ Some hs → Prints hs (joined_by 0 f fs)
unfolding paired printed joined_by
print-paired [] [] hs n c e =
    let z : hs ≡ [] = cc in
    rw z (record { bytes = refl; proper = no_more })
print-paired (b ∷ f) [] hs n c e = absurd (let z : ◌≡◌ {A = ℕ} 0 1 = cc in omega arith)
print-paired f (v ∷ []) hs n c e = absurd (let z : ◌≡◌ {A = ℕ} 0 1 = cc in omega arith)
print-paired [] (v ∷ (f ∷ fs)) hs n c e = absurd (let z : ◌≡◌ {A = ℕ} 0 1 = cc in omega arith)
print-paired (b ∷ f) (v ∷ (g ∷ fs)) hs n (cv & (cg & c)) e =
    print-with (record { name = b ∷ f; value = v }) (paired g fs) hs (joined_by 0 g fs) (record { named = refl; name_bytes = n; value_bytes = cv })
    (λ hs' e'. print-paired g fs hs' cg c e') e

pub printed-read : (s : List ℕ) (hs : List Header) → headers_of s ≡ Some hs → Prints hs s
printed-read s hs e =
    let p = parts-of 0 s in
    let r = print-paired (parted 0 s).first (parted 0 s).others hs p.in_first p.in_others e in
    record { bytes = r.bytes ∙ p.from; proper = r.proper }

pub parsed-printed : (hs : List Header) → All Proper hs → parsed (printed hs) ≡ gives hs
parsed-printed hs p = rw (read-printed hs p)

pub printed-parsed : (s : List ℕ) (hs : List Header) → parsed s ≡ gives hs → printed hs ≡ s
printed-parsed s hs e = (printed-read s hs (given-gives (headers_of s) 5 hs e)).bytes

-- What stands behind a header's name and behind the header, where the headers are printed from i on.

module _ (b : List ℕ) (i : ℕ) (h : Header) (hs : List Header) (e : drop i b ≡ h.name ++ 0 ∷ (h.value ++ 0 ∷ printed hs)) where
  pub behind-name : drop (i + length h.name + 1) b ≡ h.value ++ 0 ∷ printed hs
  behind-name =
      rw (add_assoc i (length h.name) 1)
      (sym (drop-drop (length h.name + 1) i b)
      ∙ ap (drop (length h.name + 1)) e
      ∙ drop-append-add h.name (0 ∷ (h.value ++ 0 ∷ printed hs)) 1)

  pub behind-printed : drop (i + length h.name + 1 + length h.value + 1) b ≡ printed hs
  behind-printed =
      rw (add_assoc (i + length h.name + 1) (length h.value) 1)
      (sym (drop-drop (length h.value + 1) (i + length h.name + 1) b)
      ∙ ap (drop (length h.value + 1)) behind-name
      ∙ drop-append-add h.value (0 ∷ printed hs) 1)
