-- Entries: reading is the inverse of writing, whatever the 8 bytes are.
-- Assumes nothing.
use mathlib.Core.Path.{◌≡◌, refl, ap}
use mathlib.Core.Logic.{◌≢◌}
use mathlib.Core.Bool.{Bool, true, false}
use mathlib.Core.List.{List, [], ◌∷◌}
use Prim.Native.Nat.{ℕ, suc, ◌+◌, ◌≤◌}
use native.Mathlib.Omega.{arith}
use borrow.Author.Tests.{eqb-true, eqb-false, ne_eqb}
use lib.Dec.{eqb, lit≤}
use lib.ListN.{length, get_or}
use Rattle.byte_format.specs.Number.{bytes_of, number_at, Wide, Bytes}
use Rattle.byte_format.specs.Stands.{Stands}
use Rattle.byte_format.specs.Format.{got, stop, Readable}
use Rattle.byte_format.proofs.Numbers.{length_bytes, number_wide}
use Rattle.byte_format.proofs.Standing.{stands_join, stands_first, stands_left, stands_byte, byte_stands, stands_number, number_stands}
use Rattle.byte_format.proofs.Kinded.{Said, known, unknown, Told, kinded_lawful}
use Rattle.settings_entry.specs.declared.code.Code.{Code}
use Rattle.settings_entry.specs.declared.code.Code.TheVariants.{Margin, Feed, Count}
use Rattle.settings_entry.specs.Entry.{Entry, byte_of, encode_entry, code_of, codes, entries}

-- a byte says its code
byte_says : (k : Code) (q : ℕ) → code_of (byte_of k) q ≡ got k q
byte_says Margin q = refl
byte_says Feed q = refl
byte_says Count q = refl

-- a byte that is none of the three says nothing: "unknown code"
pub code_unknown : (b : ℕ) → ((k : Code) → b ≢ byte_of k) → (q : ℕ) → code_of b q ≡ stop 11
code_unknown b n q = rw (ne_eqb b 1 (n Margin), ne_eqb b 2 (n Feed), ne_eqb b 3 (n Count))

-- which it is, for any byte
which_code : (b : ℕ) → Said codes byte_of b
which_code b = go (eqb b 1) (eqb b 2) (eqb b 3) refl refl refl
  where
    none : b ≢ 1 → b ≢ 2 → b ≢ 3 → (k : Code) → b ≢ byte_of k
    none x y z Margin = x
    none x y z Feed = y
    none x y z Count = z

    go : (x y z : Bool) → eqb b 1 ≡ x → eqb b 2 ≡ y → eqb b 3 ≡ z → Said codes byte_of b
    go true y z t u v = known Margin (eqb-true _ _ t)
    go false true z t u v = known Feed (eqb-true _ _ u)
    go false false true t u v = known Count (eqb-true _ _ v)
    go false false false t u v =
        let n = none (eqb-false b 1 t) (eqb-false b 2 u) (eqb-false b 3 v) in
        unknown n (code_unknown b n)

-- the code bytes
pub codes_told : Told codes byte_of
codes_told = record { its = byte_says; each = which_code; some = λ k. lit≤ tt }

-- an entry has 9 bytes
pub length_entry : (e : Entry) → length (encode_entry e) ≡ 9
length_entry e = ap suc (length_bytes 8 e.bits)

-- the bytes of a whole entry are those of what it says
body_stands :
    (s : List ℕ) (p : ℕ) → Bytes s → (k : Code) → get_or s p 0 ≡ byte_of k → p + 9 ≤ length s →
    Wide 8 (number_at 8 s (p + 1)) × Stands s p (encode_entry (codes.body k s p)) (p + 9)
body_stands s p b k e h =
    let n : p + 1 + 8 ≡ p + 9 = omega arith in
    (number_wide 8 s (p + 1) b, rw n at (stands_join (stands_byte (omega arith) e) (stands_number 8 s (p + 1) b (omega arith))))

-- an entry that stands there is the one that is read
stands_body : (s : List ℕ) (p q : ℕ) (e : Entry) → Wide 8 e.bits → Stands s p (encode_entry e) q → codes.body e.kind s p ≡ e
stands_body s p q e f x =
    let a : number_at 8 s (p + 1) ≡ e.bits = number_stands 8 e.bits f (stands_left (byte_of e.kind ∷ []) (bytes_of 8 e.bits) x) in
    ap (λ (n : ℕ). record { kind = e.kind; bits = n }) a

-- the reader of entries is the inverse of their encoder
pub entries_lawful : Readable entries
entries_lawful =
    kinded_lawful codes byte_of codes_told 1 encode_entry (λ e. Wide 8 e.bits) (λ e. e.kind) length_entry body_stands
    (λ s p q e x. byte_stands (stands_first (byte_of e.kind ∷ []) (bytes_of 8 e.bits) x))
    stands_body
