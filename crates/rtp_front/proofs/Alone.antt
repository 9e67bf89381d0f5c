-- What comes to a front about others leaves a source as it was.
use Rattle.std.proofs.Common.{◌≡◌, ℕ, List, [], ◌∷◌, ◌++◌, Option, None, refl, sym, subst, ◌∙◌}
use Rattle.std.specs.Prelude.{IsSome}
use Rattle.std.specs.List.{AllByRecursion}
use Rattle.std.proofs.lemmas.Bool.{false≢true}
use Rattle.source_table.specs.declared.source.Source.{Source}
use Rattle.source_table.specs.Table.{kept}
use Rattle.front_model.specs.Given.{Setting, Given, Ask, asks, table}
use Rattle.front_model.specs.Laws.{IsAlike}
use Rattle.front_model.specs.Sessions.{setting, given_of, given}
use Rattle.front_model.specs.Types.{rate}
use Rattle.rtp_session.specs.Laws.{IsApart, IsLeftAlone, IsPacketToldAlone, IsCompoundToldAlone}
use Rattle.rtp_front.specs.Laws.{IsLeftAsItWas, IsPacketToldAsBefore, IsCompoundToldAsBefore}

same : (s : Setting) (ssrc : ℕ) (xs : List Ask) → IsAlike s ssrc xs xs
same s ssrc xs = record { source = refl; name = refl; waiting = refl }

both : (s : Setting) (ssrc : ℕ) (xs ys zs : List Ask) → IsAlike s ssrc xs ys → IsAlike s ssrc ys zs → IsAlike s ssrc xs zs
both s ssrc xs ys zs a b = record { source = a.source ∙ b.source; name = a.name ∙ b.name; waiting = a.waiting ∙ b.waiting }

given_apart : IsLeftAlone → (s : Setting) (ssrc : ℕ) (gs older : List Given) → AllByRecursion (IsApart ssrc) gs → IsAlike s ssrc (asks (gs ++ older)) (asks older)
given_apart left s ssrc [] older apart = same s ssrc (asks older)
given_apart left s ssrc (g ∷ gs) older apart =
    both s ssrc (asks (g ∷ (gs ++ older))) (asks (gs ++ older)) (asks older) (left s ssrc g (gs ++ older) apart.0) (given_apart left s ssrc gs older apart.1)

pub left_as_it_was : IsLeftAlone → IsLeftAsItWas
left_as_it_was left c session ssrc [] older apart = same (setting c session) ssrc (asks (given c session older))
left_as_it_was left c session ssrc (e ∷ es) older apart =
    both (setting c session) ssrc (asks (given c session (e ∷ (es ++ older)))) (asks (given c session (es ++ older))) (asks (given c session older))
    (given_apart left (setting c session) ssrc (given_of c session e) (given c session (es ++ older)) apart.0)
    (left_as_it_was left c session ssrc es older apart.1)

nothing : (o p : Option Source) → o ≡ p → IsSome p → o ≡ None → ⊥
nothing o p e some none = false≢true (subst IsSome (sym e ∙ none) some)

pub packet_as_before : IsLeftAlone → IsPacketToldAlone → IsPacketToldAsBefore
packet_as_before left told c session time from p newer older apart some =
    let s = setting c session in
    let here = given c session (newer ++ older) in
    let there = given c session older in
    let alike : IsAlike s p.ssrc (asks here) (asks there) = left_as_it_was left c session p.ssrc newer older apart in
    (told s time from p (rate c session p.pt) here there alike (λ none. absurd (nothing (kept (table s (asks here)) p.ssrc) (kept (table s (asks there)) p.ssrc) alike.source some none))).0

pub compound_as_before : IsLeftAlone → IsCompoundToldAlone → IsCompoundToldAsBefore
compound_as_before left told c session ssrc time packets newer older apart =
    (told (setting c session) ssrc time packets (given c session (newer ++ older)) (given c session older) (left_as_it_was left c session ssrc newer older apart)).0
