-- Both ways round: what was migrated is written back as the old list, and what is written back is migrated to the same settings.
-- Assumes nothing.
use mathlib.Core.Path.{◌≡◌, sym, ap, subst, ◌∙◌}
use mathlib.Core.List.{List, ◌++◌, map}
use Prim.Native.Nat.{ℕ, ◌≤◌}
use native.Mathlib.Omega.{arith}
use lib.ListN.{length, take, drop, length-map, get_or-map}
use Rattle.byte_format.specs.Format.{encode_section}
use Rattle.settings_entry.specs.declared.code.Code.TheVariants as code
use Rattle.settings_list.specs.declared.Slot.{Slot}
use Rattle.settings_list.specs.declared.Migration.{Migration}
use Rattle.settings.specs.declared.Written.{Written}
use Rattle.settings_entry.specs.Entry.{Entry, entries, setting_of}
use Rattle.settings_list.specs.Migration.{slots}
use Rattle.settings.specs.Writing.{list_of, list_size, answer}
use Rattle.settings.proofs.Writing.{length_list}
use Rattle.settings_demands.specs.Ensured.{Migrates, WritesBack}
use Rattle.settings_demands.specs.OldList.{OldList}
use Rattle.settings_demands.specs.WriteFault.{MayStand, room_enough}
use Rattle.settings_demands.specs.Again.{same_settings}
use Rattle.settings_demands.proofs.Lists.{good_at_lem}
use Rattle.settings_demands.proofs.Slots.{slot_holds, slots_many, entries_of_slots}
use Rattle.settings_demands.proofs.Explained.{exactly, holds}
use Rattle.settings_demands.proofs.Writing.{writing, wrote}
use Rattle.settings_demands.proofs.Written.{old_again}

-- the settings of an old list: they may stand in a list, and it is that list
module _ {s : List ℕ} (es : List Entry) (o : OldList s es) where
  may_stand : MayStand (slots (map setting_of es)) (length es)
  may_stand =
      let xs = map setting_of es in
      let d : Entry = record { kind = code.Count; bits = 0 } in
      record {
        few = o.few;
        good = λ i h. rw (slot_holds xs i (omega (arith, length-map es setting_of)) ∙ get_or-map setting_of es i d) (good_at_lem es i d o.good h);
      }

  same_list : list_of (slots (map setting_of es)) (length es) ≡ s
  unfolding list_of
  same_list = ap (encode_section entries) (entries_of_slots es o.fits o.good) ∙ sym o.bytes

  same_size : list_size (length es) ≡ length s
  same_size =
      let xs = map setting_of es in
      sym (length_list (slots xs) (slots_many xs (omega (arith, o.few.1, length-map es setting_of))) (length es) o.few.1) ∙ ap length same_list

-- "Writing settings back into a lent buffer gives the old list exactly"
pub old_list_again :
    {s old new : List ℕ} {m : Migration} {w : Written} → Migrates s m → m.refusal ≡ 0 → WritesBack m.settings m.number old w new →
    length s ≤ length old → (w ≡ answer 0 (length s)) × (new ≡ s ++ drop (length s) old)
old_list_again {s} {old} {new} {m} {w} said z back room =
    let r = (exactly said).0 z in
    let es = r.0 in
    let o = r.1 in
    let back' : WritesBack (slots (map setting_of es)) (length es) old w new =
    subst (λ (y : Migration). WritesBack y.settings y.number old w new) (holds said o) back in
    let size = same_size es o in
    let a : w ≡ answer 0 (list_size (length es)) = (writing back' 0 (list_size (length es))).1 (room_enough (may_stand es o) (omega arith)) in
    (a ∙ ap (answer 0) size, (wrote back' (ap (λ (y : Written). y.refusal) a)).buffer ∙ rw (same_list es o, size))

-- "what is written back is migrated to the same settings"
pub same_settings_again :
    {ss : List Slot} {n : ℕ} {old new : List ℕ} {w : Written} {m : Migration} → WritesBack ss n old w new → w.refusal ≡ 0 →
    Migrates (take w.place new) m → m ≡ same_settings ss n
same_settings_again back z said = let a = old_again back z in holds said a.list ∙ rw (a.size, a.number, a.settings)
