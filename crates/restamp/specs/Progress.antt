-- Progress reports: how far a file was read.
use Rattle.std.specs.Prelude.{◌≡◌, ℕ, ◌-◌, ◌/◌, ◌^◌, ◌≤◌, ◌<◌, List, ◌++◌, codes, length, drop, IsCharBoundary, Option, None, Some}
use Rattle.std.specs.Fmt.{decimal}
use Rattle.byte_streams.specs.declared.counted.Counted.{Counted}
use Rattle.restamp_stream.specs.Reports.{displayed_name}
use Rattle.restamp.specs.declared.progress.Reporter.{Reporter}
use Rattle.restamp.specs.declared.progress.Reporter.TheVariants.{Nothing, Lines, OneLine}
use Rattle.restamp.specs.declared.opening.Origin.{Origin}
use Rattle.restamp.specs.declared.opening.Origin.TheVariants.{File, Input}

-- a number of bytes in MiB, rounded down, as a decimal number
abbrev pub mebibytes : ℕ → List ℕ
mebibytes n = decimal (n / 2 ^ 20)

-- the amount in a report: the MiB that were read, and then ` of ` and the size of the file in MiB, if it is known
abbrev pub amount_text : ℕ → Option ℕ → List ℕ
amount_text read None = mebibytes read
amount_text read (Some size) = mebibytes read ++ (codes " of " ++ mebibytes size)

-- The last 40 bytes of a text, or all of a shorter one. If the 40 bytes begin inside a character, its bytes are
-- omitted.
abbrev pub IsEnd : List ℕ → List ℕ → Type 0
IsEnd text end =
    (start : ℕ) × IsCharBoundary text start × (length text - 40 ≤ start)
    × ((i : ℕ) → length text - 40 ≤ i → i < start → ¬ (IsCharBoundary text i)) × (end ≡ drop start text)

-- The name of a file in progress reports: displayed as in other reports, and for `OneLine` its end of at most 40 bytes.
abbrev pub IsReported : Reporter → List ℕ → List ℕ → Type 0
IsReported Nothing name reported = reported ≡ displayed_name name
IsReported Lines name reported = reported ≡ displayed_name name
IsReported OneLine name reported = IsEnd (displayed_name name) reported

-- the report of a file, without a line end, by its name in reports, the bytes read, and its size in bytes, if known
abbrev pub progress_text : List ℕ → ℕ → Option ℕ → List ℕ
progress_text name read size = codes "restamp: " ++ (name ++ (codes ": " ++ (amount_text read size ++ codes " MiB")))

-- ---- Inputs: a file or standard input

-- the value of one function for a file, or of the other for standard input
abbrev pub of_either : {F I A : Type 0} → (F → A) → (I → A) → Origin F I → A
of_either of_file of_input (File file) = of_file file
of_either of_file of_input (Input input) = of_input input

-- how many reads of an input returned an error
abbrev pub faults_of : {F I : Type 0} → Origin (Counted F) (Counted I) → ℕ
faults_of origin = of_either (λ file. file.faults) (λ input. input.faults) origin

-- how many bytes the reads of an input returned, at most 2^64 - 1
abbrev pub given_of : {F I : Type 0} → Origin (Counted F) (Counted I) → ℕ
given_of origin = of_either (λ file. file.given) (λ input. input.given) origin
