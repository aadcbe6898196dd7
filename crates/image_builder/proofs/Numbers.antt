-- The number of a version tells that version.
use Rattle.std.proofs.Common.{◌≡◌, ◌∙◌, ℕ, ◌+◌, ◌*◌, ◌/◌, ◌%◌, ◌<◌, ◌≤◌, ◌^◌, List, ap, refl, sym, inl, inr, arith}
use Rattle.std.specs.Prelude.{codes, replicate, ◌++◌}
use Rattle.std.specs.Fmt.{decimal}
use Rattle.std.specs.Option.{unwrap_or}
use Rattle.py_fields.specs.declared.version.Version.{Version}
use Rattle.py_process.specs.Sources.{flags_of, version_of_number}
use Rattle.image_builder.specs.Covered.{IsNumberOf, IsNumbered, IsPreFinal, IsReleaseByte, number_of, plain_flags}
use Rattle.image_builder.specs.Covered.{told_version}
use Rattle.image_builder.proofs.Releases.{is_found, plain_number}

pub number_is : (v : Version) → IsNumbered v → IsNumberOf v (number_of v)
unfolding number_of
number_is v is =
    let byte = is.flags.0 in
    record {
      byte = byte;
      flags = is.flags.1;
      parts = ap (λ o. ((v.major * 256 + v.minor) * 256 + v.patch) * 256 + unwrap_or o 0)
          (is_found v.release_flags byte is.flags.1);
    }

byte_small : (flags : List ℕ) (byte : ℕ) → IsReleaseByte flags byte → byte ≤ 255
byte_small flags byte (inl h) = omega (arith, h.1)
byte_small flags byte (inr (inl h)) = omega (arith, h.byte_is, h.small)
byte_small flags byte (inr (inr (inl h))) = omega (arith, h.byte_is, h.small)
byte_small flags byte (inr (inr (inr h))) = omega (arith, h.byte_is, h.small)

-- a level and a serial number
pre_told : (letters : List ℕ) (level n : ℕ) (flags : List ℕ) (byte : ℕ)
    → ((serial : ℕ) → flags_of level serial ≡ letters ++ decimal serial) → IsPreFinal letters level flags byte
    → n / 2 ^ 4 % 16 ≡ byte / 16 → n % 16 ≡ byte % 16 → level < 16
    → ((xs : List ℕ) → plain_flags (letters ++ xs) ≡ letters ++ plain_flags xs)
    → flags_of (n / 2 ^ 4 % 16) (n % 16) ≡ plain_flags flags
pre_told letters level n flags byte told h high low small past =
    let level_is : n / 2 ^ 4 % 16 ≡ level = omega (arith, high, h.byte_is, h.small) in
    let serial_is : n % 16 ≡ h.serial = omega (arith, low, h.byte_is, h.small) in
    ap (λ l. flags_of l (n % 16)) level_is ∙ ap (flags_of level) serial_is ∙ told h.serial
    ∙ sym (ap (λ xs. letters ++ xs) (plain_number h.zeros h.serial h.small))
    ∙ sym (past (replicate h.zeros 48 ++ decimal h.serial)) ∙ sym (ap plain_flags h.flags_are)

flags_told : (n : ℕ) (flags : List ℕ) (byte : ℕ) → IsReleaseByte flags byte → n / 2 ^ 4 % 16 ≡ byte / 16
    → n % 16 ≡ byte % 16 → flags_of (n / 2 ^ 4 % 16) (n % 16) ≡ plain_flags flags
flags_told n flags byte (inl h) high low =
    let level_is : n / 2 ^ 4 % 16 ≡ 15 = omega (arith, high, h.1) in
    ap (λ l. flags_of l (n % 16)) level_is ∙ sym (ap plain_flags h.0)
flags_told n flags byte (inr (inl h)) high low = pre_told (codes "a") 10 n flags byte (λ s. refl) h high low
    (omega arith) (λ xs. refl)
flags_told n flags byte (inr (inr (inl h))) high low = pre_told (codes "b") 11 n flags byte (λ s. refl) h high low
    (omega arith) (λ xs. refl)
flags_told n flags byte (inr (inr (inr h))) high low = pre_told (codes "rc") 12 n flags byte (λ s. refl) h high low
    (omega arith) (λ xs. refl)

pub version_told : (v : Version) (n : ℕ) → IsNumbered v → IsNumberOf v n → version_of_number n ≡ told_version v
unfolding version_of_number
version_told v n is h =
    let byte = h.byte in
    let small = byte_small v.release_flags byte h.flags in
    let major : n / 2 ^ 24 % 256 ≡ v.major = omega (arith, h.parts, small, is.major, is.minor, is.patch) in
    let minor : n / 2 ^ 16 % 256 ≡ v.minor = omega (arith, h.parts, small, is.major, is.minor, is.patch) in
    let patch : n / 2 ^ 8 % 256 ≡ v.patch = omega (arith, h.parts, small, is.major, is.minor, is.patch) in
    let high : n / 2 ^ 4 % 16 ≡ byte / 16 = omega (arith, h.parts, small) in
    let low : n % 16 ≡ byte % 16 = omega (arith, h.parts) in
    let flags = flags_told n v.release_flags byte h.flags high low in
    λ i. record {
      major = major i;
      minor = minor i;
      patch = patch i;
      release_flags = flags i;
      build_metadata =
          sym is.plain i;
    }

pub number_fits : (v : Version) (n : ℕ) → IsNumbered v → IsNumberOf v n → n < 2 ^ 32
number_fits v n is h = omega (arith, h.parts, byte_small v.release_flags h.byte h.flags, is.major, is.minor, is.patch)
