-- What private contracts cite.
pub mod LawsBelow
