-- The names of Linux' signals, and what the codes mean that stand with an address: the numbers of
-- include/uapi/asm-generic/signal.h and siginfo.h, which are the same on x86-64 and aarch64.
use Rattle.std.specs.Prelude.{ℕ, ℤ, pos, if◌then◌else◌, List, [], ◌∷◌, find, option_map, Option, codes}
use Rattle.std.specs.Ordering.{int_eq}
use Rattle.crash_signal.specs.declared.tables.Word as code

-- a number, and what it stands for
pub record Word : Type 0 where
  pub number : ℤ
  pub text : List ℕ

-- the same, as the code has it
abbrev pub word_of : code.Word → Word
word_of w = record { number = w.number; text = w.text.now }

abbrev word : ℤ → List ℕ → Word
word number text = record { number = number; text = text }

-- the signals that have a name
unfoldable pub signal_names : List Word
signal_names =
    word (pos 1) (codes "SIGHUP")
    ∷ word (pos 2) (codes "SIGINT")
    ∷ word (pos 3) (codes "SIGQUIT")
    ∷ word (pos 4) (codes "SIGILL")
    ∷ word (pos 5) (codes "SIGTRAP")
    ∷ word (pos 6) (codes "SIGABRT")
    ∷ word (pos 7) (codes "SIGBUS")
    ∷ word (pos 8) (codes "SIGFPE")
    ∷ word (pos 9) (codes "SIGKILL")
    ∷ word (pos 10) (codes "SIGUSR1")
    ∷ word (pos 11) (codes "SIGSEGV")
    ∷ word (pos 12) (codes "SIGUSR2")
    ∷ word (pos 13) (codes "SIGPIPE")
    ∷ word (pos 14) (codes "SIGALRM")
    ∷ word (pos 15) (codes "SIGTERM")
    ∷ word (pos 16) (codes "SIGSTKFLT")
    ∷ word (pos 17) (codes "SIGCHLD")
    ∷ word (pos 18) (codes "SIGCONT")
    ∷ word (pos 19) (codes "SIGSTOP")
    ∷ word (pos 20) (codes "SIGTSTP")
    ∷ word (pos 21) (codes "SIGTTIN")
    ∷ word (pos 22) (codes "SIGTTOU")
    ∷ word (pos 23) (codes "SIGURG")
    ∷ word (pos 24) (codes "SIGXCPU")
    ∷ word (pos 25) (codes "SIGXFSZ")
    ∷ word (pos 26) (codes "SIGVTALRM")
    ∷ word (pos 27) (codes "SIGPROF")
    ∷ word (pos 28) (codes "SIGWINCH")
    ∷ word (pos 29) (codes "SIGIO")
    ∷ word (pos 30) (codes "SIGPWR")
    ∷ word (pos 31) (codes "SIGSYS")
    ∷ []

-- the codes of SIGILL
unfoldable pub ill_meanings : List Word
ill_meanings =
    word (pos 1) (codes "illegal opcode")
    ∷ word (pos 2) (codes "illegal operand")
    ∷ word (pos 3) (codes "illegal addressing mode")
    ∷ word (pos 4) (codes "illegal trap")
    ∷ word (pos 5) (codes "privileged opcode")
    ∷ word (pos 6) (codes "privileged register")
    ∷ word (pos 7) (codes "coprocessor error")
    ∷ word (pos 8) (codes "internal stack error")
    ∷ word (pos 9) (codes "unimplemented instruction address")
    ∷ []

-- the codes of SIGTRAP
unfoldable pub trap_meanings : List Word
trap_meanings =
    word (pos 1) (codes "breakpoint")
    ∷ word (pos 2) (codes "trace trap")
    ∷ word (pos 3) (codes "branch trap")
    ∷ word (pos 4) (codes "hardware breakpoint or watchpoint")
    ∷ word (pos 5) (codes "undiagnosed trap")
    ∷ word (pos 6) (codes "performance event")
    ∷ []

-- the codes of SIGBUS
unfoldable pub bus_meanings : List Word
bus_meanings =
    word (pos 1) (codes "invalid address alignment")
    ∷ word (pos 2) (codes "no such physical address")
    ∷ word (pos 3) (codes "object error")
    ∷ word (pos 4) (codes "hardware memory error, of memory that was used")
    ∷ word (pos 5) (codes "hardware memory error, of memory that was not used yet")
    ∷ []

-- the codes of SIGFPE
unfoldable pub fpe_meanings : List Word
fpe_meanings =
    word (pos 1) (codes "integer division by zero")
    ∷ word (pos 2) (codes "integer overflow")
    ∷ word (pos 3) (codes "floating point division by zero")
    ∷ word (pos 4) (codes "floating point overflow")
    ∷ word (pos 5) (codes "floating point underflow")
    ∷ word (pos 6) (codes "floating point inexact result")
    ∷ word (pos 7) (codes "floating point invalid operation")
    ∷ word (pos 8) (codes "subscript out of range")
    ∷ word (pos 14) (codes "undiagnosed floating point exception")
    ∷ word (pos 15) (codes "trap on a condition")
    ∷ []

-- the codes of SIGSEGV
unfoldable pub segv_meanings : List Word
segv_meanings =
    word (pos 1) (codes "address not mapped")
    ∷ word (pos 2) (codes "no permission")
    ∷ word (pos 3) (codes "bounds check failed")
    ∷ word (pos 4) (codes "protection key refused")
    ∷ word (pos 5) (codes "application data integrity is not enabled")
    ∷ word (pos 6) (codes "application data integrity, disrupting")
    ∷ word (pos 7) (codes "application data integrity, precise")
    ∷ word (pos 8) (codes "memory tag mismatch, told later")
    ∷ word (pos 9) (codes "memory tag mismatch")
    ∷ word (pos 10) (codes "control protection fault")
    ∷ []

-- the codes of a signal that mean something
unfoldable pub meanings_of : ℤ → List Word
meanings_of signal =
    if int_eq signal (pos 4) then ill_meanings
    else if int_eq signal (pos 5) then trap_meanings
    else if int_eq signal (pos 7) then bus_meanings
    else if int_eq signal (pos 8) then fpe_meanings
    else if int_eq signal (pos 11) then segv_meanings
    else []

-- the text of a number
abbrev pub text_at : List Word → ℤ → Option (List ℕ)
text_at words number = option_map (λ (w : Word). w.text) (find (λ w. int_eq w.number number) words)

-- the name of a signal
unfoldable pub name_of : ℤ → Option (List ℕ)
name_of signal = text_at signal_names signal

-- what a code of a signal means that stands with an address
unfoldable pub meaning_of : ℤ → ℤ → Option (List ℕ)
meaning_of signal code = text_at (meanings_of signal) code
