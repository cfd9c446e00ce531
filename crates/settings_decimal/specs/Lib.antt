-- A float in decimal: what the contracts cite.
pub mod Decimal
pub mod Answer
