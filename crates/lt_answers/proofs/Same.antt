-- Answers that are one, and answers that differ.
use Rattle.std.proofs.Common.{◌≡◌, refl, subst}
use Rattle.lt_answers.specs.Answers.{IsSame}
use Rattle.lt_answers.specs.declared.status.Status.{Status}
use Rattle.lt_answers.specs.declared.status.Status.TheVariants.{Done, Refused, Usage, Absent, TooLong, ReadFault, WriteFault, NoMemory}
use Rattle.lt_answers.specs.declared.status.Refusal.{Refusal}
use Rattle.lt_answers.specs.declared.status.Refusal.TheVariants.{Lex, Unsupported, TooNested, Syntax, Typing, NoEntry, Spec, Suite, Cover, Mixed, MixedHyper, MixedTest, Grown}

pub same_refusal : (why : Refusal) → IsSame (Refused why) (Refused why)
same_refusal (Lex at) = refl
same_refusal (Unsupported word at) = refl
same_refusal (TooNested at) = refl
same_refusal (Syntax at) = tt
same_refusal (Typing rule at) = refl
same_refusal NoEntry = refl
same_refusal (Spec line) = refl
same_refusal (Suite line) = refl
same_refusal (Cover row) = refl
same_refusal (Mixed id) = refl
same_refusal (MixedHyper id) = refl
same_refusal (MixedTest name) = refl
same_refusal (Grown nest) = refl

pub same_itself : (s : Status) → IsSame s s
same_itself Done = refl
same_itself (Refused why) = same_refusal why
same_itself Usage = refl
same_itself (Absent name) = refl
same_itself (TooLong name len) = refl
same_itself ReadFault = refl
same_itself WriteFault = refl
same_itself NoMemory = refl

-- answers that are equal are one
pub same_of : (s t : Status) → s ≡ t → IsSame s t
same_of s t e = subst (λ it. IsSame s it) e (same_itself s)

-- so are refusals
pub same_why : (why other : Refusal) → why ≡ other → IsSame (Refused why) (Refused other)
same_why why other e = subst (λ it. IsSame (Refused why) (Refused it)) e (same_refusal why)
