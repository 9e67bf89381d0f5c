use Rattle.std.proofs.Common.{◌≡◌, ◌≤◌, ℕ, List, [], ◌∷◌, length, sym, subst, refl, lit≤, lit<, arith}
use Rattle.std.proofs.lemmas.List.{length-append}
use Rattle.rtcp_wire.specs.declared.packet.Nack.{Nack}
use Rattle.rtcp_wire.specs.declared.packet.Rtcp.TheVariants.{Nacks}
use Rattle.rtcp_wire.specs.Laws.{length-numbers_bytes, length-entries}
use Rattle.rtcp_wire.specs.Written.{IsWritable}
use Rattle.rtp_front.proofs.requests.nack_bytes.Goals as goal

fits : (own media : ℕ) (list : List Nack) → length list ≤ 8192
    → IsWritable (Nacks own media list ∷ [])
fits own media list few = record {
  begins = (lit≤ tt, lit≤ tt);
  each = (
    record {
      body = tt;
      words =
          simp length-append
          (omega (arith, length-entries list, length-numbers_bytes (own ∷ media ∷ [])));
    },
    tt,
  );
}

pub write_compound-requires : goal.write_compound-requires
write_compound-requires c =
    let few : length c.in_ok-nacks.field-0.items ≤ 8192 =
    omega (arith, c.in_ok-nacks.ensures.count)
    in
    fits c.args.own c.args.media c.from_vec-list.result
    (subst (λ (l : List Nack). length l ≤ 8192) (sym c.from_vec-list.ensures) few)
