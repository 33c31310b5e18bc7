mod AskedPartLemmas
mod WordLemmas
mod WrongWordLemmas
