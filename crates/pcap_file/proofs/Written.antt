-- What was written reads back.
use Rattle.std.proofs.Common.{◌≡◌, ℕ, ◌+◌, ◌*◌, ◌/◌, ◌%◌, ◌^◌, ◌≤◌, ◌<◌, true, List, [], ◌++◌, length, take, drop, Some, Ok, refl, sym, ap, ◌∙◌, arith}
use Rattle.std.specs.Prelude.{nat_eq, IsTrue}
use Rattle.std.proofs.lemmas.List.{length-append, take_at}
use Rattle.byteorder.specs.Endian.{little_bytes}
use Rattle.byteorder.specs.Numbers.{little_number-reads_back}
use Rattle.pcap_file.specs.Numbers.{number_at}
use Rattle.pcap_file.specs.declared.order.Order.TheVariants.{Little}
use Rattle.pcap_file.specs.Capture.{AtRecord, format_of, order_of, is_version, is_link, link_at}
use Rattle.pcap_file.specs.Writing.{written_header, written_format, written_fields, written_record, ReadsBack}
use Rattle.pcap_file.proofs.Opening.{format_whole}
use Rattle.pcap_file.proofs.Heads.{head_whole}
use Rattle.pcap_file.proofs.Asking.{record_is}

link_written : (link : ℕ) → link < 2 ^ 32 → number_at Little 4 20 (written_header link) ≡ link
unfolding number_at
link_written link lt = little_number-reads_back 4 link [] lt

order_written : (link : ℕ) → order_of (written_header link) ≡ Some Little
unfolding number_at
order_written link = refl

version_written : (link : ℕ) → is_version Little (written_header link) ≡ true
unfolding number_at
version_written link = refl

format_is : (link : ℕ) → link < 2 ^ 32 → written_format link ≡ record { order = Little; nanoseconds = true; link = link_at Little (written_header link) }
format_is link lt = rw (link_written link lt) refl

nano_written : (link : ℕ) → nat_eq (number_at Little 4 0 (written_header link)) 0xa1b23c4d ≡ true
unfolding number_at
nano_written link = refl

pub format_written : (link : ℕ) → link < 2 ^ 32 → IsTrue (is_link (link % 65536)) → format_of (written_header link) ≡ Ok (written_format link)
format_written link lt known =
    sym (format_whole (written_header link) Little (written_format link) refl (order_written link) (version_written link) (rw (link_written link lt) known)
    (rw (nano_written link) (format_is link lt)))

seconds_written : (time size : ℕ) (rest : List ℕ) → time / 1000000000 < 2 ^ 32 → number_at Little 4 0 (written_fields time size ++ rest) ≡ time / 1000000000
unfolding number_at
seconds_written time size rest lt =
    little_number-reads_back 4 (time / 1000000000) (little_bytes 4 (time % 1000000000) ++ (little_bytes 4 size ++ (little_bytes 4 size ++ rest))) lt

fraction_written : (time size : ℕ) (rest : List ℕ) → number_at Little 4 4 (written_fields time size ++ rest) ≡ time % 1000000000
unfolding number_at
fraction_written time size rest = little_number-reads_back 4 (time % 1000000000) (little_bytes 4 size ++ (little_bytes 4 size ++ rest)) (omega arith)

length_written : (time size : ℕ) (rest : List ℕ) → size < 2 ^ 32 → number_at Little 4 8 (written_fields time size ++ rest) ≡ size
unfolding number_at
length_written time size rest lt = little_number-reads_back 4 size (little_bytes 4 size ++ rest) lt

original_written : (time size : ℕ) (rest : List ℕ) → size < 2 ^ 32 → number_at Little 4 12 (written_fields time size ++ rest) ≡ size
unfolding number_at
original_written time size rest lt = little_number-reads_back 4 size rest lt

same_record : (link offset : ℕ) {stamp time original size : ℕ} {bytes frame : List ℕ} → stamp ≡ time → original ≡ size → bytes ≡ frame
    → record_is link offset stamp original bytes ≡ record_is link offset time size frame
same_record link offset p q r = rw (p, q, r) refl

pub record_written : (time : ℕ) (frame : List ℕ) → time < 2 ^ 32 * 1000000000 → length frame ≤ 262144 → ReadsBack time frame (written_record time frame)
record_written time frame early short link count offset more few =
    let size = length frame in
    let fields = written_fields time size in
    let rest = frame ++ more in
    let bytes = written_record time frame ++ more in
    let seconds : number_at Little 4 0 bytes ≡ time / 1000000000 = seconds_written time size rest (omega arith) in
    let fraction : number_at Little 4 4 bytes ≡ time % 1000000000 = fraction_written time size rest in
    let included : number_at Little 4 8 bytes ≡ size = length_written time size rest (omega arith) in
    let original : number_at Little 4 12 bytes ≡ size = original_written time size rest (omega arith) in
    let front : length fields ≡ 16 = refl in
    let len : length bytes ≡ 16 + (length frame + length more) = omega (arith, length-append (written_record time frame) more, length-append fields frame, front) in
    let stamp : number_at Little 4 0 bytes * 1000000000 + number_at Little 4 4 bytes * 1 ≡ time = omega (arith, seconds, fraction) in
    let body : take (number_at Little 4 8 bytes) (drop 16 bytes) ≡ frame = ap (λ (n : ℕ). take n rest) included ∙ take_at frame more size refl in
    head_whole (written_format link) count offset bytes few (omega (arith, included)) (omega (arith, fraction)) (omega (arith, included, len))
    ∙ ap AtRecord (same_record (link % 65536) offset stamp original body)
