-- What a session tells of one source hangs on what is about it.
use Rattle.std.proofs.Common.{◌≡◌, ℕ, ◌+◌, Bool, true, false, cond, List, [], ◌∷◌, ◌++◌, reverse, Some, refl, sym, ap, ◌∙◌, subst, eqb-true}
use Rattle.std.specs.Prelude.{nat_eq, is_some}
use Rattle.std.specs.List.{AllByRecursion}
use Rattle.rtp_units.specs.Numbers.{ntp_time}
use Rattle.source_table.specs.declared.answers.Named.{Named}
use Rattle.source_table.specs.declared.answers.Named.TheVariants.{Unknown, Same, Changed}
use Rattle.source_table.specs.Answers.{named}
use Rattle.source_table.specs.Table.{kept}
use Rattle.front_model.specs.Given.{Setting, Rtcp, Ask, Hears, Names, Reports, Leaves, Closes, asks_of, asks, table}
use Rattle.front_model.specs.Notes.{Note, Synced, Stray, Left, name_notes, ask_notes, notes_along}
use Rattle.front_model.specs.Laws.{concerns, subject, IsAlike, IsTakenAlike, IsLeftByOthers, HangsOnItsOwn}
use Rattle.rtp_session.specs.Laws.{is_about, told_of, IsLeftAlone, IsPacketToldAlone, IsCompoundToldAlone}
use Rattle.rtp_session.proofs.Keeping.{IsTalk, AllTalk, turns, compound_talks}

same : (s : Setting) (ssrc : ℕ) (xs : List Ask) → IsAlike s ssrc xs xs
same s ssrc xs = record { source = refl; name = refl; waiting = refl }

both : (s : Setting) (ssrc : ℕ) (xs ys zs : List Ask) → IsAlike s ssrc xs ys → IsAlike s ssrc ys zs → IsAlike s ssrc xs zs
both s ssrc xs ys zs a b = record { source = a.source ∙ b.source; name = a.name ∙ b.name; waiting = a.waiting ∙ b.waiting }

back : (s : Setting) (ssrc : ℕ) (xs ys : List Ask) → IsAlike s ssrc xs ys → IsAlike s ssrc ys xs
back s ssrc xs ys a = record { source = sym a.source; name = sym a.name; waiting = sym a.waiting }

-- ---- others

left_by : IsLeftByOthers → (s : Setting) (ssrc : ℕ) (xs before : List Ask) → AllByRecursion (λ ask. concerns ssrc ask ≡ false) xs → IsAlike s ssrc (reverse xs ++ before) before
left_by others s ssrc [] before apart = same s ssrc before
left_by others s ssrc (x ∷ xs) before apart =
    subst (λ (l : List Ask). IsAlike s ssrc l before) (sym (turns x xs before))
    (both s ssrc (reverse xs ++ x ∷ before) (x ∷ before) before (left_by others s ssrc xs (x ∷ before) apart.1) (others s ssrc x before apart.0))

pub left_alone : IsLeftByOthers → IsLeftAlone
left_alone others s ssrc g older apart = left_by others s ssrc (asks_of g) (asks older) apart

-- ---- a packet

pub packet_alone : HangsOnItsOwn → IsPacketToldAlone
packet_alone own s now from view rate here there alike room =
    let told = own s view.ssrc (Hears now from view rate) (asks here) (asks there) refl alike room in
    (ap (λ (ns : List Note). ns ++ []) told.0, told.1)

-- ---- the calls of a compound take in no source

taken : (s : Setting) (call : Ask) (here there : List Ask) → IsTalk call → IsTakenAlike s call here there
taken s (Names ssrc text) here there h = tt
taken s (Reports now ssrc seconds fraction rtp) here there h = tt
taken s (Leaves ssrc) here there h = tt
taken s (Hears now from view rate) here there h = absurd h
taken s (Closes now timeout) here there h = absurd h

-- ---- what a call about another SSRC tells

name_apart : (ssrc x : ℕ) (text : List ℕ) (n : Named) → nat_eq ssrc x ≡ false → told_of ssrc (name_notes x text n) ≡ []
name_apart ssrc x text Changed e = rw e refl
name_apart ssrc x text Same e = refl
name_apart ssrc x text Unknown e = refl

report_apart : (b : Bool) (ssrc x ntp rtp : ℕ) → nat_eq ssrc x ≡ false → told_of ssrc (cond b (Synced x ntp rtp ∷ []) (Stray x ∷ [])) ≡ []
report_apart true ssrc x ntp rtp e = rw e refl
report_apart false ssrc x ntp rtp e = rw e refl

leave_apart : (b : Bool) (ssrc x : ℕ) → nat_eq ssrc x ≡ false → told_of ssrc (cond b (Left x ∷ []) []) ≡ []
leave_apart true ssrc x e = rw e refl
leave_apart false ssrc x e = refl

apart_told : (s : Setting) (ssrc : ℕ) (before : List Ask) (call : Ask) → IsTalk call → concerns ssrc call ≡ false → told_of ssrc (ask_notes s before call) ≡ []
apart_told s ssrc before (Names x text) h e = name_apart ssrc x text (named (table s before) x text) e
apart_told s ssrc before (Reports now x seconds fraction rtp) h e = report_apart (is_some (kept (table s before) x)) ssrc x (ntp_time seconds fraction) rtp e
apart_told s ssrc before (Leaves x) h e = leave_apart (is_some (kept (table s before) x)) ssrc x e
apart_told s ssrc before (Hears now from view rate) h e = absurd h
apart_told s ssrc before (Closes now timeout) h e = absurd h

own_subject : (ssrc : ℕ) (call : Ask) → IsTalk call → concerns ssrc call ≡ true → subject call ≡ Some ssrc
own_subject ssrc (Names x text) h e = ap (λ (n : ℕ). Some n) (sym (eqb-true ssrc x e))
own_subject ssrc (Reports now x seconds fraction rtp) h e = ap (λ (n : ℕ). Some n) (sym (eqb-true ssrc x e))
own_subject ssrc (Leaves x) h e = ap (λ (n : ℕ). Some n) (sym (eqb-true ssrc x e))
own_subject ssrc (Hears now from view rate) h e = absurd h
own_subject ssrc (Closes now timeout) h e = absurd h

-- ---- a call, and a list of them

abbrev Alike : Setting → ℕ → Ask → List Ask → List Ask → Type 0
Alike s ssrc call here there = (told_of ssrc (ask_notes s here call) ≡ told_of ssrc (ask_notes s there call)) × IsAlike s ssrc (call ∷ here) (call ∷ there)

one_alone : IsLeftByOthers → HangsOnItsOwn → (b : Bool) (s : Setting) (ssrc : ℕ) (call : Ask) (here there : List Ask) → concerns ssrc call ≡ b → IsTalk call → IsAlike s ssrc here there
    → Alike s ssrc call here there
one_alone others own true s ssrc call here there e talk alike =
    let told = own s ssrc call here there (own_subject ssrc call talk e) alike (taken s call here there talk) in
    (ap (told_of ssrc) told.0, told.1)
one_alone others own false s ssrc call here there e talk alike = (
  apart_told s ssrc here call talk e ∙ sym (apart_told s ssrc there call talk e),
  both s ssrc (call ∷ here) here (call ∷ there) (others s ssrc call here e) (both s ssrc here there (call ∷ there) alike (back s ssrc (call ∷ there) there (others s ssrc call there e))),
)

joined_if : (b : Bool) (n : Note) (ms ns : List Note) → cond b (n ∷ (ms ++ ns)) (ms ++ ns) ≡ cond b (n ∷ ms) ms ++ ns
joined_if true n ms ns = refl
joined_if false n ms ns = refl

told_joined : (ssrc : ℕ) (ms ns : List Note) → told_of ssrc (ms ++ ns) ≡ told_of ssrc ms ++ told_of ssrc ns
told_joined ssrc [] ns = refl
told_joined ssrc (m ∷ ms) ns =
    ap (λ (l : List Note). cond (is_about ssrc m) (m ∷ l) l) (told_joined ssrc ms ns) ∙ joined_if (is_about ssrc m) m (told_of ssrc ms) (told_of ssrc ns)

all_alone : IsLeftByOthers → HangsOnItsOwn → (s : Setting) (ssrc : ℕ) (calls here there : List Ask) → AllTalk calls → IsAlike s ssrc here there
    → (told_of ssrc (notes_along s here calls) ≡ told_of ssrc (notes_along s there calls)) × IsAlike s ssrc (reverse calls ++ here) (reverse calls ++ there)
all_alone others own s ssrc [] here there talk alike = (refl, alike)
all_alone others own s ssrc (x ∷ xs) here there talk alike =
    let one = one_alone others own (concerns ssrc x) s ssrc x here there refl talk.0 alike in
    let rest = all_alone others own s ssrc xs (x ∷ here) (x ∷ there) talk.1 one.1 in (
      told_joined ssrc (ask_notes s here x) (notes_along s (x ∷ here) xs) ∙ (λ i. one.0 i ++ rest.0 i) ∙ sym (told_joined ssrc (ask_notes s there x) (notes_along s (x ∷ there) xs)),
      subst (λ (l : List Ask). IsAlike s ssrc l (reverse (x ∷ xs) ++ there)) (sym (turns x xs here))
          (subst (λ (l : List Ask). IsAlike s ssrc (reverse xs ++ x ∷ here) l) (sym (turns x xs there)) rest.1),
    )

pub compound_alone : IsLeftByOthers → HangsOnItsOwn → IsCompoundToldAlone
compound_alone others own s ssrc now packets here there alike =
    all_alone others own s ssrc (asks_of (Rtcp now packets)) (asks here) (asks there) (compound_talks now packets) alike
