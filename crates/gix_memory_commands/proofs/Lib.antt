mod WordFacts
mod WithoutMemory
mod WholeAnswers
mod NoTip
