-- The theorems on the definitions of specs/.
pub mod Example
pub mod ParsingExample
pub mod Exact
pub mod Sums
pub mod Meaning
pub mod Numbers
pub mod FieldLaws
pub mod Blocks
pub mod LineFacts
pub mod Gathered
pub mod Declared
pub mod PageParsed
pub mod Proved
pub mod PageLength
pub mod NoLoop
